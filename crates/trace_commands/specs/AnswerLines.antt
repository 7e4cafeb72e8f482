-- How the answers to a script's events are printed: a line for each, of the event's number, counted from 0, and the words of its answer.
use Rattle.std.specs.Prelude.{ℕ, suc, List, [], ◌∷◌, ◌++◌, None, Some, codes}
use Rattle.std.specs.Fmt.{decimal}
use Rattle.ctf_types.specs.declared.ArgFault.{ArgFault}
use Rattle.ctf_types.specs.declared.ArgFault.TheVariants as misuse
use Rattle.packet_collector.specs.declared.collected.Collected.{Collected}
use Rattle.packet_collector.specs.declared.collected.Collected.TheVariants as collected
use Rattle.thread_stream.specs.declared.packet_answer.PacketAnswer.{PacketAnswer}
use Rattle.thread_stream.specs.declared.packet_answer.PacketAnswer.TheVariants as packet
use Rattle.thread_stream.specs.declared.verdict.Verdict.{Verdict}
use Rattle.thread_stream.specs.declared.verdict.Verdict.TheVariants as verdict
use Rattle.thread_stream.specs.declared.verdict.Why.{Why}
use Rattle.thread_stream.specs.declared.verdict.Why.TheVariants as why
use Rattle.trace_stack.specs.declared.answer.Answer.{Answer}
use Rattle.trace_stack.specs.declared.answer.Answer.TheVariants as answer

-- ---- the words of an answer

abbrev pub why_word : Why → List ℕ
why_word why.TooLarge = codes "TooLarge"
why_word why.BackEndFull = codes "BackEndFull"
why_word why.ClockSpent = codes "ClockSpent"

abbrev pub misuse_word : ArgFault → List ℕ
misuse_word misuse.NoSuchEvent = codes "NoSuchEvent"
misuse_word misuse.Count = codes "Count"
misuse_word misuse.Kind = codes "Kind"
misuse_word misuse.Range = codes "Range"
misuse_word misuse.ZeroByte = codes "ZeroByte"
misuse_word misuse.Length = codes "Length"

abbrev pub packet_word : PacketAnswer → List ℕ
packet_word packet.Done = codes "Done"
packet_word packet.AlreadyOpen = codes "AlreadyOpen"
packet_word packet.NotOpen = codes "NotOpen"
packet_word packet.Disabled = codes "Disabled"
packet_word packet.Full = codes "Full"
packet_word packet.ClockSpent = codes "ClockSpent"

abbrev pub verdict_words : Verdict → List ℕ
verdict_words (verdict.Accepted None) = codes "Accepted"
verdict_words (verdict.Accepted (Some reading)) = codes "Accepted " ++ decimal reading
verdict_words (verdict.Discarded why) = codes "Discarded " ++ why_word why
verdict_words verdict.Disabled = codes "Disabled"
verdict_words (verdict.Misuse fault) = codes "Misuse " ++ misuse_word fault

abbrev pub collected_words : Collected → List ℕ
collected_words (collected.Took before) = codes "Took " ++ decimal before
collected_words collected.Nothing = codes "Nothing"
collected_words collected.Faulted = codes "Faulted"

-- no event of a script sets extra members, so that none is answered that they are not set
abbrev pub answer_words : Answer → List ℕ
answer_words (answer.Traced verdict) = verdict_words verdict
answer_words (answer.Packet what) = packet_word what
answer_words (answer.Collected what) = collected_words what
answer_words answer.Set = codes "Set"
answer_words (answer.NotSet fault) = codes "NotSet"

-- ---- lines

abbrev pub answer_line : ℕ → Answer → List ℕ
answer_line number answer = decimal number ++ codes " " ++ answer_words answer ++ 10 ∷ []

-- the lines of these answers, the first of them of this number
abbrev pub answer_lines : ℕ → List Answer → List ℕ
answer_lines number [] = []
answer_lines number (answer ∷ answers) = answer_line number answer ++ answer_lines (suc number) answers
