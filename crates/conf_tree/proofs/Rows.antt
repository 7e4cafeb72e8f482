-- The definitions on a few values.
use Rattle.std.proofs.Common.{◌≡◌, [], ◌∷◌, None, Ok, Err, pos, refl}
use Rattle.std.specs.Prelude.{codes, Float}
use Rattle.serde_json.specs.Data.{null, number, array, object, unsigned, float, no_items, item, no_members, member}
use Rattle.conf_tree.specs.declared.fault_kind.FaultKind.TheVariants.{TooDeep, NotWhole, Missing, OutOfRange, WrongKind}
use Rattle.conf_tree.specs.declared.limits.TheConstants.{MAX_LEVELS}
use Rattle.conf_tree.specs.Flaw.{key, index}
use Rattle.conf_tree.specs.Reading.{◌>>=◌, needed, optional, whole_of}
use Rattle.conf_tree.specs.Walk.{flaws}

-- `{"trace": 1e3}`
a_float : (x : Float) → flaws (object (member (codes "trace") (number (float x)) no_members)) MAX_LEVELS ≡ record { path = key (codes "trace") ∷ []; kind = NotWhole } ∷ []
a_float x = refl

-- `[[], 1.5, [[]]]` where two levels may nest
in_walk_order : (x : Float) → flaws (array (item (array no_items) (item (number (float x)) (item (array (item (array no_items) no_items)) no_items)))) 2
    ≡ record { path = index 1 ∷ []; kind = NotWhole } ∷ record { path = index 2 ∷ index 0 ∷ []; kind = TooDeep } ∷ []
in_walk_order x = refl

-- 65 and 64 where 1 to 64 is asked for
past_the_range : whole_of (pos 1) (pos 64) (number (unsigned 65)) ≡ Err (record { path = []; kind = OutOfRange })
unfolding whole_of
past_the_range = refl

at_the_end_of_the_range : whole_of (pos 1) (pos 64) (number (unsigned 64)) ≡ Ok (pos 64)
unfolding whole_of
at_the_end_of_the_range = refl

-- `{}` and `{"size": null}`
missing : needed (codes "size") no_members ≡ Err (record { path = key (codes "size") ∷ []; kind = Missing })
missing = refl

null_where_needed : needed (codes "size") (member (codes "size") null no_members) >>= whole_of (pos 1) (pos 64) ≡ Err (record { path = []; kind = WrongKind })
unfolding whole_of
null_where_needed = refl

null_where_optional : optional (codes "size") (member (codes "size") null no_members) ≡ None
null_where_optional = refl
