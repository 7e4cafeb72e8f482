use Rattle.tsdl_writer.proofs.TreeWords.{hyphenated_text, lower, rules, ◌≡◌}
use Rattle.tsdl_writer.proofs.attributes.uuid.Goals as goal

pub returns : goal.returns
returns c =
    let same : c.encode_lower-text.result.now ≡ hyphenated_text lower c.in-Some.uuid = search rules in
    record { prints = rw c.in-Some.is (rw same at c.attribute.ensures); held = search rules }
