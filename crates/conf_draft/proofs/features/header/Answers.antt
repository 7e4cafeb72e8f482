use Rattle.std.proofs.Common.{◌≡◌, Option, Some, refl}
use Rattle.ctf_types.specs.declared.IntType.{IntType}
use Rattle.conf_draft.specs.Features.{header, header_with}
use Rattle.conf_draft.proofs.features.header.Goals as goal

header_made : (m u s : Option (Option IntType)) (x y z : Option IntType) → m ≡ Some x → u ≡ Some y → s ≡ Some z → header_with m u s ≡ Some (record { magic = x; uuid = y; stream_id = z })
header_made m u s x y z a b c = rw (a, b, c) refl

pub returns : goal.returns
unfolding header
returns c =
    header_made _ _ _ c.feature.result c.identifier.result c.feature-2.result (cc) (cc) (cc)
