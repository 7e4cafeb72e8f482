-- What the value of a text has of flaws as a tree: none where it is a tree, and else the first of them is told.
use Rattle.std.proofs.Common.{◌≡◌, ◌⊎◌, ℕ, List, Ok, inl, inr, ap, subst}
use Rattle.serde_json.specs.Data.{Data}
use Rattle.conf_tree.specs.declared.fault.ConfFault.{ConfFault}
use Rattle.conf_tree.specs.Flaw.{Flaw, flaw_of, IsMemory}
use Rattle.conf_tree.specs.Walk.{IsTreeOf, IsFirstFlaw, refusal}
use Rattle.conf_inherit.specs.{FaultOrder.IsToldInTurn, Resolution.resolution}
use Rattle.conf_inherit.proofs.{LookedUp.read_in_order, RefusalLemmas.refusal_excluded}
use Rattle.conf_laws.specs.TreeOrder.{IsTreeFlaw, IsFirstInTree}
use Rattle.conf_laws.proofs.TreeFlawLaws.{first_tree_flaw, no_tree_flaw}
use Rattle.conf_check.specs.Configuration.{IsNoTree, TellsFirstInTree, TellsInheritanceInTurn}

pub tree_excluded : (text : List ℕ) (t : Data) (flaw : Flaw) → IsTreeOf text t → ¬ IsNoTree text flaw
tree_excluded text t flaw tree (inl (is, none)) = none t tree.0
tree_excluded text t flaw tree (inr (d, reads, holds)) =
    let same : d ≡ t = cc (tree.0.1, reads.1) in
    no_tree_flaw t flaw (read_in_order text t tree.0.1) tree.1 (subst (λ x. IsTreeFlaw x flaw) same holds)

-- a text whose value is a tree has no flaw that could be told before another
pub none_to_tell : (text : List ℕ) (t : Data) (flaw : Flaw) → IsTreeOf text t → TellsFirstInTree text flaw
none_to_tell text t flaw tree d other reads holds = absurd (tree_excluded text t other tree (inr (d, reads, holds)))

-- and where it is none, the flaw at which a walk over its value stops is the first
pub first_told : (text : List ℕ) (fault : ConfFault) → IsMemory fault ⊎ IsFirstFlaw text (flaw_of fault) → IsMemory fault ⊎ TellsFirstInTree text (flaw_of fault)
first_told text fault (inl memory) = inl memory
first_told text fault (inr (inl (is, none))) = inr (λ d other reads holds. absurd (none d reads))
first_told text fault (inr (inr (t, rest, reads, is))) =
    inr (λ d other too holds. let same : t ≡ d = cc (reads.1, too.1) in subst (λ x. IsFirstInTree x (flaw_of fault)) same (first_tree_flaw t (flaw_of fault) (read_in_order text t reads.1) (ap refusal is)))

-- a tree that has a resolution has no fault of inheritance that could be told before another
pub none_inherited : (text : List ℕ) (t r : Data) (flaw : Flaw) → IsTreeOf text t → resolution t ≡ Ok r → TellsInheritanceInTurn text flaw
none_inherited text t r flaw tree resolved s tree_too =
    let none = refusal_excluded text t r tree resolved in
    let same : t ≡ s = cc (tree.0.1, tree_too.0.1) in
    subst (λ x. IsToldInTurn x flaw) same (record {
      depth_last = λ other wrong. absurd (none other (inl wrong));
      aliases_first = λ j other lies wrong. absurd (none other (inl wrong));
      first_alias = λ k lies j other below theirs no wrong. none other (inl wrong);
    })

-- what is told of a text's tree is told of the text
pub told_of_tree : (text : List ℕ) (t : Data) (flaw : Flaw) → IsTreeOf text t → IsToldInTurn t flaw → TellsInheritanceInTurn text flaw
told_of_tree text t flaw tree told s tree_too = let same : t ≡ s = cc (tree.0.1, tree_too.0.1) in subst (λ x. IsToldInTurn x flaw) same told
