-- The kind of a value that holds others, by its place: an object, a list, a feature that is on or off, or an entry of one
-- property (barectf 3.1, "Configuration object" and the pages below it).
use Rattle.std.specs.Prelude.{nat_eq, nat_lt, Result, Ok, Err, ⊤, if◌then◌else◌}
use Rattle.serde_json.specs.Data.{Data, boolean}
use Rattle.serde_json.specs.Events.{items_len, members_len}
use Rattle.conf_tree.specs.declared.fault_kind.FaultKind.TheVariants.{WrongKind}
use Rattle.conf_tree.specs.Flaw.{Flaw, here}
use Rattle.conf_tree.specs.Reading.{◌>>=◌, object_of, list_of}
use Rattle.conf_table.specs.declared.place.Place.{Place}
use Rattle.conf_table.specs.declared.place.Place.TheVariants as places
use Rattle.conf_table.specs.declared.row.Content.{Content}
use Rattle.conf_table.specs.declared.row.Content.TheVariants as contents
use Rattle.conf_judge.specs.Known.{Known}
use Rattle.conf_judge.specs.Leaves.{leaf_of, only_if}
use Rattle.conf_judge.specs.Numbers.{inside_of}

unfoldable pub any_object : Data → Result ⊤ Flaw
any_object d = object_of d >>= (λ ms. Ok tt)

-- on, off, or a type of its own
unfoldable pub feature : Data → Result ⊤ Flaw
feature (boolean b) = Ok tt
feature d = any_object d

-- a packet cannot do without its sizes
unfoldable pub size_feature : Data → Result ⊤ Flaw
size_feature (boolean b) = only_if b
size_feature d = any_object d

abbrev pub some_items : Data → Result ⊤ Flaw
some_items d = list_of d >>= (λ ds. only_if (nat_lt 0 (items_len ds)))

abbrev pub some_members : Data → Result ⊤ Flaw
some_members d = object_of d >>= (λ ms. only_if (nat_lt 0 (members_len ms)))

abbrev pub one_member : Data → Result ⊤ Flaw
one_member d = object_of d >>= (λ ms. if nat_eq (members_len ms) 1 then Ok tt else Err (here WrongKind))

-- a list or an object has one at least of what it holds, and an entry just one property
unfoldable pub form_of : Known → Place → Data → Result ⊤ Flaw
form_of k places.Members d = list_of d >>= (λ ds. Ok tt)
form_of k places.ExtraMembers d = list_of d >>= (λ ds. Ok tt)
form_of k places.Ranges d = some_items d
form_of k places.Range d = inside_of k.numbers d
form_of k places.Entry d = one_member d
form_of k places.Mappings d = some_members d
form_of k places.Feature d = feature d
form_of k places.MagicFeature d = feature d
form_of k places.IdentifierFeature d = feature d
form_of k places.SizeFeature d = size_feature d
form_of k places.Scalar d = Ok tt
form_of k places.Ignored d = Ok tt
form_of k _ d = any_object d

-- the kind of a value that holds others, or a value that holds none
unfoldable pub itself_of : Known → Content → Data → Result ⊤ Flaw
itself_of k (contents.At place) d = form_of k place d
itself_of k content d = leaf_of k content d
