use Rattle.tsdl_writer.proofs.Printing.{pair, refl, codes, event_header_members, false, is_none, rules, two_words, ◌≡◌, last, scoped, two_off}
use Rattle.tsdl_writer.proofs.scopes.event_header.Goals as goal
use Rattle.tsdl_writer.proofs.scopes.event_header.Goals.{else-is_none-via-then-is_none+else-is_none-2, else-is_none-via-else-is_none}

pub returns : goal.returns
returns c = last c.close.result c.close.ensures (λ one rest text e.
    let f = c.args.features.now in
    scoped (two_words (codes "event") (codes "header")) _ (event_header_members f) 8 rest refl
    (λ h. let off = two_off f.id f.timestamp h in elim c.else-is_none.branch [
      | else-is_none-via-then-is_none+else-is_none-2 w ↦ let on : is_none f.timestamp ≡ false = search rules in cc
      | else-is_none-via-else-is_none w ↦ let on : is_none f.id ≡ false = search rules in cc
    ])
    (search (pair, c.in_ok-print.ensures, c.in_ok-print-2.ensures, c.in_ok-feature.ensures, c.in_ok-feature-2.ensures, one, e) depth 40))
