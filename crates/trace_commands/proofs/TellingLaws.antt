-- What is told of an answer, and of what failed.
use Rattle.std.proofs.Common.{inl, inr, ℕ, List, Option, string_bytes}
use Rattle.std.proofs.KnownBytes.{Appends-nil}
use Rattle.number_packets.specs.declared.numbers.Answer.{Answer}
use Rattle.trace_commands.specs.declared.failure.Failure.{Failure}
use Rattle.trace_commands.specs.declared.failure.Failure.TheVariants.{File as FileFailed, OutOfMemory as NoMemory}
use Rattle.trace_commands.specs.Telling.{Answering, FailsAt, IsFailureLine, IsLineOf, SaysFailure, SaysLine, IsAnswerAlone, Told}

-- ---- an answer

-- what holds of an answer that is told holds of what is told
pub told_weaker : (P Q : Answering) (old new olde newe : Option (List ℕ)) (status : ℕ)
    → ((output errors : List ℕ) (s : ℕ) → P output errors s → Q output errors s) → Told P old new olde newe status → Told Q old new olde newe status
told_weaker P Q old new olde newe status f (inl w) =
    inl (record { output = w.output; errors = w.errors; answer = f w.output w.errors status w.answer; printed = w.printed; said = w.said })
told_weaker P Q old new olde newe status f (inr (e, inl w)) =
    inr (e, inl (record { output = w.output; errors = w.errors; due = w.due; answer = f w.output w.errors w.due w.answer; printed = w.printed; said = w.said }))
told_weaker P Q old new olde newe status f (inr (e, inr w)) =
    inr (e, inr (record { output = w.output; errors = w.errors; due = w.due; answer = f w.output w.errors w.due w.answer; printed = w.printed; said = w.said }))

-- an answer that is told is one that may be answered
pub told_answer : (P : Answering) (a : Answer) (old new olde newe : Option (List ℕ)) (status : ℕ) → P (string_bytes a.output) a.errors.items a.status
    → Told (IsAnswerAlone a) old new olde newe status → Told P old new olde newe status
told_answer P a old new olde newe status may told =
    told_weaker (IsAnswerAlone a) P old new olde newe status (λ output errors s t. rw (t.0, t.1, t.2) may) told

-- ---- what failed

-- nothing is printed, and such a line is said
pub failed : (Is : List ℕ → Type 0) (old olde newe : Option (List ℕ)) → SaysLine Is olde newe → SaysFailure Is old old olde newe
failed Is old olde newe said = record { nothing = Appends-nil old; said = said }

-- what fails at such a path fails at one that is such as well
pub fails_weaker : (P Q : List ℕ → Type 0) (failure : Failure) → ((path : List ℕ) → P path → Q path) → FailsAt P failure → FailsAt Q failure
fails_weaker P Q (FileFailed path fault) f at = f (string_bytes path) at
fails_weaker P Q NoMemory f at = tt

line_of : (IsPath : List ℕ → Type 0) (failure : Failure) (line : List ℕ) → FailsAt IsPath failure → IsFailureLine failure line → IsLineOf IsPath line
line_of IsPath (FileFailed path fault) line at (inl is) = inl (string_bytes path, at, is)
line_of IsPath (FileFailed path fault) line at (inr is) = inr is
line_of IsPath NoMemory line at is = inr is

-- the line of what failed is one of such a path
pub says_of : (IsPath : List ℕ → Type 0) (failure : Failure) (old new : Option (List ℕ)) → FailsAt IsPath failure → SaysLine (IsFailureLine failure) old new
    → SaysLine (IsLineOf IsPath) old new
says_of IsPath failure old new at said = (said.0, line_of IsPath failure said.0 at said.1, said.2)
