use Rattle.std.proofs.Common.{◌∙◌, refl}
use Rattle.uuid.specs.Text.{parsed}
use Rattle.tsdl_meaning.proofs.TextWords.{uuid_value}
use Rattle.tsdl_meaning.proofs.WordTables.{parses_to}
use Rattle.tsdl_meaning.proofs.value.uuid_value.Goals as goal

pub returns-in-Text : goal.returns-in-Text
unfolding uuid_value
returns-in-Text c =
    c.ok.ensures.value ∙ parses_to c.try_parse_ascii.result (parsed c.as_bytes.result.now) c.try_parse_ascii.ensures.ok c.try_parse_ascii.ensures.bytes
    ∙ rw (c.as_bytes.ensures, c.in-Text.is) refl
