-- The metadata text of a configuration.
use Rattle.std.specs.Prelude.{ℕ, List}
use Rattle.ctf_types.specs.declared.Config.{Config}
use Rattle.tsdl_writer.specs.{Layout.text_of, Trees.blocks_of}

unfoldable pub written : Config → List ℕ
written c = text_of (blocks_of c)
