-- A front of bytes, and then a front of what was left.
use Rattle.std.proofs.Common.{ℕ, ◌+◌, List, Option, length, take, drop, sym, ap, ◌∙◌, length-drop, subst, arith}
use Rattle.std.proofs.KnownBytes.{Appends-trans}
use Rattle.std.proofs.Math.Seq.{take-add}
use Rattle.std.proofs.lemmas.List.{drop-drop}
use Rattle.std.specs.Io.KnownBytes.{Appends}
use Rattle.trace_platform.specs.Fronts.{Advances}

-- a front of what was left after a front is a longer front
pub Advances-trans : (a b c : Option (List ℕ)) (bytes left rest : List ℕ) → Advances a b bytes left → Advances b c left rest → Advances a c bytes rest
Advances-trans a b c bytes left rest p q = record {
  count = p.count + q.count;
  within = omega (arith, p.within, q.within, ap (λ (l : List ℕ). length l) p.left_is, length-drop p.count bytes);
  written = subst (λ l. Appends a c l) (sym (take-add p.count q.count bytes)) (Appends-trans a b c (take p.count bytes) (take q.count (drop p.count bytes)) p.written (subst (λ l. Appends b c (take q.count l)) p.left_is q.written));
  left_is = q.left_is ∙ ap (drop q.count) p.left_is ∙ drop-drop q.count p.count bytes;
}
