use Rattle.std.proofs.KnownBytes.{Appends-nil, Appends-trans}
use Rattle.trace_platform.proofs.Pieces.{Appends-pieces}
use Rattle.trace_platform.proofs.laws.appended_pieces.Goals as goal

pub returns : goal.returns
returns c = record { nothing = Appends-nil; twice = Appends-trans; pieces = Appends-pieces }
