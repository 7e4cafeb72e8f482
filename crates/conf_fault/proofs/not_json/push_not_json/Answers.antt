use Rattle.std.proofs.Common.{◌≡◌, ◌-◌, List, [], ◌++◌, ℕ, arith, drop, inl, inr, length, refl, subst, sym, take, string_bytes, append-nil}
use Rattle.std.specs.Prelude.{codes}
use Rattle.std.proofs.lemmas.List.{length-drop, take_all}
use Rattle.std.proofs.lemmas.Result.{on_ok_weaker}
use Rattle.conf_fault.specs.declared.line_column.LineColumn.{LineColumn}
use Rattle.conf_fault.specs.LineColumn.{IsPlaceAt}
use Rattle.conf_fault.specs.Explanation.{Adds, IsFoundWords, IsNotJson, IsYamlHint, place_words}
use Rattle.conf_fault.specs.declared.stop.Stop.{Stop}
use Rattle.conf_fault.specs.Stop.{IsStop, reason_words}
use Rattle.conf_fault.proofs.Adding.{appended, behind}
use Rattle.conf_fault.proofs.not_json.push_not_json.Goals as goal

not_json : (text : List ℕ) (stop : Stop) (place : LineColumn) (was s1 s2 s3 s4 s5 hint now : List ℕ) → IsStop text stop → IsPlaceAt text stop.at place → s1 ≡ was ++ place_words place → s2 ≡ s1 ++ codes "not JSON: found "
    → Adds (IsFoundWords (drop stop.at text)) s2 s3 → s4 ≡ s3 ++ codes ": expected " → s5 ≡ s4 ++ reason_words stop.reason → IsYamlHint hint → now ≡ s5 ++ hint → Adds (IsNotJson text) was now
not_json text stop place was s1 s2 s3 s4 s5 hint now stops lies e1 e2 found e4 e5 looks e6 =
    let f2 = place_words place ++ codes "not JSON: found " in
    let f3 = f2 ++ found.0 in
    let f4 = f3 ++ codes ": expected " in
    let f5 = f4 ++ reason_words stop.reason in (
      f5 ++ hint,
      record { at = stop.at; place = place; found = found.0; reason = stop.reason; hint = hint; lies = lies; stands = found.1; stops = stops.reason; looks = looks; is = refl },
      behind was s5 now f5 hint (behind was s4 s5 f4 _ (behind was s3 s4 f3 _ (behind was s2 s3 f2 found.0 (behind was s1 s2 (place_words place) _ e1 e2) found.2) e4) e5) e6,
    )

-- the rest of a text as the code cuts it
rest : (text : List ℕ) (at : ℕ) (was now : List ℕ) → Adds (IsFoundWords (take (length text - at) (drop at text))) was now → Adds (IsFoundWords (drop at text)) was now
rest text at was now found = subst (λ (bytes : List ℕ). Adds (IsFoundWords bytes) was now) (take_all (length text - at) (drop at text) (let same = length-drop at text in omega (arith, same))) found

pub returns-then-not-looks_like_yaml : goal.returns-then-not-looks_like_yaml
returns-then-not-looks_like_yaml c =
    let stop = c.in_ok-stop.stop in
    let lies : IsPlaceAt c.args.source.text.now stop.at c.line_column.result = (c.in_ok-stop.ensures.within, c.line_column.ensures.line, c.line_column.ensures.column) in
    not_json _ stop c.line_column.result _ _ _ _ _ _ [] _ c.in_ok-stop.ensures lies c.in_ok-push_place.ensures c.in_ok-push_str.ensures.bytes (rest c.args.source.text.now stop.at _ _ c.in_ok-push_found.ensures) c.in_ok-push_str-2.ensures.bytes c.in_ok-push_reason.ensures (inl refl) (sym (append-nil _))

pub returns : goal.returns
returns c =
    let stop = c.in_ok-stop.stop in
    let lies : IsPlaceAt c.args.source.text.now stop.at c.line_column.result = (c.in_ok-stop.ensures.within, c.line_column.ensures.line, c.line_column.ensures.column) in
    on_ok_weaker c.push_str-3.result (not_json _ stop c.line_column.result _ _ _ _ _ _ _ _ c.in_ok-stop.ensures lies c.in_ok-push_place.ensures c.in_ok-push_str.ensures.bytes (rest c.args.source.text.now stop.at _ _ c.in_ok-push_found.ensures) c.in_ok-push_str-2.ensures.bytes c.in_ok-push_reason.ensures (inr refl))
    (appended c.push_str-3.result (string_bytes c.push_reason.new.said) _ (codes "; this looks like YAML, of which tools/yaml_to_json makes JSON") _ c.push_str-3.ensures.bytes refl)
