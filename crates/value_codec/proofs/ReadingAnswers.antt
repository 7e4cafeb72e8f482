-- What an answer of the program says of the values: they lie where they are read, and no other values do.
use Rattle.std.proofs.Common.{◌≡◌, sym, ◌∙◌}
use Rattle.std.specs.Prelude.{Result, Ok, Err, IfOk, IfErr}
use Rattle.value_codec.specs.declared.read_fault.ReadFault.{ReadFault}
use Rattle.value_codec.specs.declared.read_fault.ReadFault.TheVariants.{PastEnd, NoTerminator, OutOfMemory}
use Rattle.value_codec.specs.Reading.{Gives}
use Rattle.value_codec.specs.Stopping.{ForReason}

-- what holds of all that is read holds of an answer
pub given : {A B : Type 0} (view : A → B) (r : Result A ReadFault) (read : Result B ReadFault) (P : B → Type 0)
    → ((y : B) → read ≡ Ok y → P y) → Gives view r read → IfOk r (λ x. P (view x))
given view (Ok x) read P h g = h (view x) g
given view (Err e) read P h g = tt

-- an answer of what is read is an answer of anything equal
pub given_same : {A B : Type 0} (view : A → B) (r : Result A ReadFault) (read other : Result B ReadFault) → read ≡ other → Gives view r read → Gives view r other
given_same view (Ok x) read other h g = sym h ∙ g
given_same view (Err PastEnd) read other h g = sym h ∙ g
given_same view (Err NoTerminator) read other h g = sym h ∙ g
given_same view (Err OutOfMemory) read other h g = tt

-- where all that stops a reader has a reason, so has a fault of the program
pub stopped : {A B : Type 0} (view : A → B) (r : Result A ReadFault) (read : Result B ReadFault) (S : ReadFault → Type 0)
    → ((e : ReadFault) → read ≡ Err e → S e) → Gives view r read → IfErr r (ForReason S)
stopped view (Ok x) read S h g = tt
stopped view (Err PastEnd) read S h g = h PastEnd g
stopped view (Err NoTerminator) read S h g = h NoTerminator g
stopped view (Err OutOfMemory) read S h g = tt
