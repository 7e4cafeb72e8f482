use Rattle.tsdl_writer.proofs.Printing.{refl, Some, codes, context_numbers, member_toks_of, number_member, two_words, ◌++◌, last, pair, scoped}
use Rattle.tsdl_writer.proofs.scopes.context.Goals as goal

pub returns : goal.returns
returns c = last c.close.result c.close.ensures (λ one rest text e.
    let f = c.args.stream.now.context in let extras = c.args.stream.now.extras.members in
    let size = number_member (codes "packet_size") (Some f.packet_size) in let content = number_member (codes "content_size") (Some f.content_size) in
    let begin = number_member (codes "timestamp_begin") f.timestamp_begin in let end = number_member (codes "timestamp_end") f.timestamp_end in
    let discarded = number_member (codes "events_discarded") f.events_discarded in let sequence = number_member (codes "packet_seq_num") f.packet_seq_num in
    scoped (two_words (codes "packet") (codes "context")) _ (context_numbers f ++ extras) 8 rest refl (λ h. cc)
    (c.in_ok-print.ensures _ text (c.in_ok-print-2.ensures _ text (pair member_toks_of (context_numbers f) extras _
    (pair member_toks_of (size ++ content ++ begin ++ end ++ discarded) sequence _ (pair member_toks_of (size ++ content ++ begin ++ end) discarded _
    (pair member_toks_of (size ++ content ++ begin) end _ (pair member_toks_of (size ++ content) begin _ (pair member_toks_of size content _
    (c.in_ok-number.ensures _ text (c.in_ok-number-2.ensures _ text (c.in_ok-feature.ensures _ text (c.in_ok-feature-2.ensures _ text (c.in_ok-feature-3.ensures _ text (c.in_ok-feature-4.ensures _ text
    (c.in_ok-members.ensures _ text (one rest text e)))))))))))))))))
