-- Refusals of a configuration's text.
use Rattle.std.proofs.Common.{◌≡◌, ◌⊎◌, ◌∙◌, ◌++◌, append_assoc, inl, inr, ℕ, Bool, true, false, true≢false, List, [], Option, Some, None, ap, sym}
use Rattle.ctf_types.specs.declared.Config.{Config}
use Rattle.ctf_types.specs.declared.IntType.{IntType}
use Rattle.conf_tree.specs.declared.fault.ConfFault.{ConfFault}
use Rattle.conf_tree.specs.Flaw.{flaw_of, IsMemory}
use Rattle.conf_check.specs.Configuration.{IsRefusal, RefusedForMemory}
use Rattle.trace_commands.specs.Checking.{IsRefused, hint, hint_by, hint_line}
use Rattle.trace_commands.specs.FaultLines.{fault_line}

-- what would be said, and is not
pub unsaid : {M : Type 0} (b : Bool) → b ≡ false → (M → b ≡ true) → M → ⊥
unsaid b e says m = true≢false (sym (says m) ∙ e)

-- the hint, where packets name no stream
pub no_hint : (path : List ℕ) (c : Config) (t : IntType) → c.header.stream_id ≡ Some t → [] ≡ hint_line path c
unfolding hint_by
no_hint path c t e = sym (ap (hint_by path) e)

pub some_hint : (path : List ℕ) (c : Config) → c.header.stream_id ≡ None → fault_line path hint ≡ hint_line path c
unfolding hint_by
some_hint path c e = sym (ap (hint_by path) e)

-- five texts, as they are joined by hand and as they are joined one by one
pub joined_five : (a b c d e : List ℕ) → a ++ (b ++ (c ++ (d ++ e))) ≡ a ++ b ++ c ++ d ++ e
joined_five a b c d e = sym (append_assoc (a ++ b ++ c) d e ∙ append_assoc (a ++ b) c (d ++ e) ∙ append_assoc a b (c ++ (d ++ e)))

-- a refusal that is not for memory says that the text is no configuration
pub refused_text : (text : List ℕ) (number : Option (List ℕ)) (fault : ConfFault) → (IsMemory fault → ⊥) → IsMemory fault ⊎ IsRefusal text number (flaw_of fault)
    → RefusedForMemory text number fault → IsRefused text number fault
refused_text text number fault innocent (inl memory) only = absurd (innocent memory)
refused_text text number fault innocent (inr refusal) only = record {
  first = refusal;
  none = λ c configures. innocent (only c configures);
}
