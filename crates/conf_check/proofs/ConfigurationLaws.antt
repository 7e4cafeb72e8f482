-- A resolved tree is judged to be a configuration exactly where it is one, and what is refused has the flaw that is told; what is a
-- configuration has none, nor has its text.
use Rattle.std.proofs.Common.{◌≡◌, ◌⊎◌, inl, inr, ⊎_elim, ℕ, List, Option, Result, Ok, Err, refl, sym, ◌∙◌, subst, ap}
use Rattle.std.specs.Result.{IfOk, IfErr}
use Rattle.std.proofs.lemmas.Result.{IfOk-weaker, IfErr-weaker, MatchResult-from_both}
use Rattle.serde_json.specs.Data.{Data}
use Rattle.ctf_types.specs.AllowedConfig.{IsConfig}
use Rattle.ctf_types.specs.declared.Config.{Config}
use Rattle.conf_tree.specs.declared.fault.ConfFault.{ConfFault}
use Rattle.conf_tree.specs.declared.limits.TheConstants.{MAX_LEVELS}
use Rattle.conf_tree.specs.Flaw.{Flaw, flaw_of, IsMemory}
use Rattle.conf_tree.specs.Order.{Ascends}
use Rattle.conf_tree.specs.Walk.{refusal, IsTreeOf, IsFirstFlaw, Reads, FlawHolds}
use Rattle.conf_inherit.specs.Faults.{RefusalHolds}
use Rattle.conf_inherit.specs.Resolution.{aliases_of, resolution, Resolves}
use Rattle.conf_judge.specs.Flaws.{configuration_flaws}
use Rattle.conf_judge.specs.Limits.{configuration_limits}
use Rattle.conf_draft.specs.declared.draft.Draft.{Draft}
use Rattle.conf_check.specs.Configuration.{IsConfigurationOf, IsNoConfiguration, IsInnocent, HasNoFault, IsNoTree, RefusedForMemory, ConfiguresByLookUp, GivesThat}
use Rattle.conf_check.specs.FirstFlaw.{IsFirstFlawOf}
use Rattle.conf_check.specs.Judgement.{whole, IsJudgedTo}
use Rattle.conf_inherit.proofs.RefusalLemmas.{refusal_excluded}
use Rattle.conf_inherit.proofs.LookedUp.{one_look}
use Rattle.conf_laws.proofs.TableFlawLaws.{none_left, none_refused, refused_told}
use Rattle.conf_laws.proofs.TableLimitLaws.{none_passed}
use Rattle.conf_laws.proofs.Traces.{draft_allowed}
use Rattle.conf_check.proofs.ExcludedTexts.{tree_excluded}
use Rattle.conf_check.proofs.RuleLaws.{Wrong, kept, rule_refused, rules_excluded}

-- ---- what is judged to be a configuration is one

pub configuration_says : (d : Data) (number : Option (List ℕ)) (c : Config) → IsJudgedTo d number c → IsConfigurationOf d number c
configuration_says d number c h =
    let k = kept d h.draft h.passes in
    record {
      draft = h.draft;
      rows = λ flaw. none_left d h.no_flaw flaw;
      says = h.says;
      rules = rules_excluded d h.draft k;
      within_limits = λ flaw. none_passed d flaw (none_refused (configuration_limits d) k.within_limits);
      config_is = h.config_is;
    }

-- and it is one that the rules allow
pub configuration_allowed : (d : Data) (number : Option (List ℕ)) (c : Config) → Ascends d → IsJudgedTo d number c → IsConfig c
configuration_allowed d number c ascends h =
    let k = kept d h.draft h.passes in
    subst IsConfig h.config_is (draft_allowed number d h.draft ascends h.no_flaw (none_refused (configuration_limits d) k.within_limits) h.says k.rules)

-- ---- what is one is judged so

passed : (r : Result (Unit {0}) Flaw) → ((flaw : Flaw) → r ≡ Err flaw → ⊥) → r ≡ Ok tt
passed (Ok x) none = refl
passed (Err flaw) none = absurd (none flaw refl)

none_wrong : (d : Data) (number : Option (List ℕ)) (c : Config) (h : IsConfigurationOf d number c) (flaw : Flaw) → Wrong d h.draft flaw → ⊥
none_wrong d number c h flaw wrong = ⊎_elim (h.rules flaw) (h.within_limits flaw) wrong

pub configuration_judged : (d : Data) (number : Option (List ℕ)) (c : Config) → IsConfigurationOf d number c → IsJudgedTo d number c
configuration_judged d number c h =
    record {
      draft = h.draft;
      no_flaw = none_refused (configuration_flaws d) (passed (refusal (configuration_flaws d)) (λ flaw e. h.rows flaw (refused_told d flaw e)));
      says = h.says;
      passes = passed (whole d h.draft) (λ flaw e. none_wrong d number c h flaw (rule_refused d h.draft flaw e));
      config_is = h.config_is;
    }

-- ---- what is refused is the first flaw, and the tree has it

pub configuration_refused : (d : Data) (number : Option (List ℕ)) (flaw : Flaw) → IsFirstFlawOf d number flaw → IsNoConfiguration d number flaw
configuration_refused d number flaw (IsFirstFlawOf.of_an_object (wrong, first)) = inl wrong
configuration_refused d number flaw (IsFirstFlawOf.of_the_whole draft rows says (wrong, first)) = inr (draft, rows, says, wrong)

-- want of memory, or what follows from the other
pub memory_or : {M A B : Type 0} → M ⊎ A → (A → B) → M ⊎ B
memory_or (inl memory) f = inl memory
memory_or (inr other) f = inr (f other)

-- ---- what is a configuration has no flaw

pub configuration_excluded : (d : Data) (number : Option (List ℕ)) (c : Config) (flaw : Flaw) → IsConfigurationOf d number c → ¬ IsNoConfiguration d number flaw
configuration_excluded d number c flaw h (inl wrong) = h.rows flaw wrong
configuration_excluded d number c flaw h (inr (draft, rows, says, wrong)) =
    let same : draft ≡ h.draft = cc (says, h.says) in
    none_wrong d number c h flaw (subst (λ x. Wrong d x flaw) same wrong)

-- where all rows and all rules hold, only want of memory refuses
pub only_memory : (d : Data) (number : Option (List ℕ)) (fault : ConfFault) → IsMemory fault ⊎ IsFirstFlawOf d number (flaw_of fault) → IsInnocent d number fault
only_memory d number fault (inl memory) c h = memory
only_memory d number fault (inr first) c h = absurd (configuration_excluded d number c (flaw_of fault) h (configuration_refused d number (flaw_of fault) first))

-- what a tree says is said once
pub one_configuration : (d : Data) (number : Option (List ℕ)) (x c : Config) → IsConfigurationOf d number x → IsConfigurationOf d number c → x ≡ c
one_configuration d number x c h i =
    let same : h.draft ≡ i.draft = cc (h.says, i.says) in
    sym h.config_is ∙ ap (λ (y : Draft). y.config) same ∙ i.config_is

-- ---- the text

pub text_excluded : (text : List ℕ) (number : Option (List ℕ)) (c : Config) (t r : Data) → IsTreeOf text t → resolution t ≡ Ok r → Resolves t r → IsConfigurationOf r number c → HasNoFault text number
text_excluded text number c t r tree resolved resolves is flaw (inl none) = tree_excluded text t flaw tree none
text_excluded text number c t r tree resolved resolves is flaw (inr (inl (s, tree_too, refused))) =
    let same : s ≡ t = cc (tree_too.0.1, tree.0.1) in
    refusal_excluded text t r tree resolved flaw (subst (λ x. RefusalHolds x flaw) same refused)
text_excluded text number c t r tree resolved resolves is flaw (inr (inr (s, q, tree_too, looked, wrong))) =
    let same : s ≡ t = cc (tree_too.0.1, tree.0.1) in
    let equal : q ≡ r = one_look (aliases_of t) (subst (λ x. Resolves x q) same looked) resolves in
    configuration_excluded r number c flaw is (subst (λ x. IsNoConfiguration x number flaw) equal wrong)

-- where the tree was resolved, no fault of inheritance holds of it
pub configured_by_look_up : (text : List ℕ) (number : Option (List ℕ)) (t r : Data) (c : Config) → IsTreeOf text t → resolution t ≡ Ok r → Resolves t r → IsConfigurationOf r number c → ConfiguresByLookUp text number c
configured_by_look_up text number t r c tree resolved resolves is = (t, r, tree, (λ flaw wrong. refusal_excluded text t r tree resolved flaw wrong), resolves, is)

-- a text that has no tree is refused for what is wrong with it
pub no_tree : (text : List ℕ) (fault : ConfFault) → IsMemory fault ⊎ IsFirstFlaw text (flaw_of fault) → IsMemory fault ⊎ ((d : Data) → Reads text d → FlawHolds d MAX_LEVELS (flaw_of fault)) → IsMemory fault ⊎ IsNoTree text (flaw_of fault)
no_tree text fault (inl memory) holds = inl memory
no_tree text fault (inr first) (inl memory) = inl memory
no_tree text fault (inr (inl none)) (inr holds) = inr (inl none)
no_tree text fault (inr (inr (d, rest, reads, is))) (inr holds) = inr (inr (d, reads, holds d reads))

-- a text that is a configuration is refused for want of memory alone, where its tree and its resolution are those that were found
pub memory_alone : (text : List ℕ) (number : Option (List ℕ)) (t r : Data) (fault : ConfFault) → IsTreeOf text t → resolution t ≡ Ok r → IsInnocent r number fault → RefusedForMemory text number fault
memory_alone text number t r fault tree resolved only c (s, q, tree_too, found, is) =
    let same : s ≡ t = cc (tree_too.0.1, tree.0.1) in
    let equal : q ≡ r = cc in
    only c (subst (λ x. IsConfigurationOf x number c) equal is)

-- by look-up too: the tree that was found has no fault of inheritance
pub refused_for_memory : (text : List ℕ) (number : Option (List ℕ)) (t : Data) (fault : ConfFault) (c : Config) → IsTreeOf text t → IsMemory fault ⊎ RefusalHolds t (flaw_of fault) → ConfiguresByLookUp text number c → IsMemory fault
refused_for_memory text number t fault c tree (inl memory) configures = memory
refused_for_memory text number t fault c tree (inr holds) (s, q, tree_too, none, looked, is) =
    let same : t ≡ s = cc (tree_too.0.1, tree.0.1) in
    absurd (none (flaw_of fault) (subst (λ x. RefusalHolds x (flaw_of fault)) same holds))

-- and the configuration that was found is the one by look-up
pub answered_by_look_up : (text : List ℕ) (number : Option (List ℕ)) (t r : Data) (c : Config) (answer : Result Config ConfFault) → IsTreeOf text t → Resolves t r → IfOk answer (IsConfigurationOf r number) → IfErr answer (IsInnocent r number) → ConfiguresByLookUp text number c → GivesThat answer c
answered_by_look_up text number t r c answer tree resolves is innocent (s, q, tree_too, none, looked, says) =
    let same : s ≡ t = cc (tree_too.0.1, tree.0.1) in
    let equal : q ≡ r = one_look (aliases_of t) (subst (λ x. Resolves x q) same looked) resolves in
    let rows : IsConfigurationOf r number c = subst (λ x. IsConfigurationOf x number c) equal says in
    MatchResult-from_both answer (λ x. x ≡ c) IsMemory
    (IfOk-weaker answer (IsConfigurationOf r number) (λ x. x ≡ c) (λ x has. one_configuration r number x c has rows) is) (IfErr-weaker answer (IsInnocent r number) IsMemory (λ fault only. only c rows) innocent)
