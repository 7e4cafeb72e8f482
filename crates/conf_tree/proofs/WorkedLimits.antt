-- The limits that only a configuration has, written out: the definitions take them from the code.
use Rattle.std.specs.Prelude.{◌≡◌, [], ◌∷◌, refl}
use Rattle.conf_tree.specs.declared.limits.TheConstants.{MAX_ALIASES, MAX_LEVELS, MAX_VALUES}

limits_of_values : MAX_LEVELS ∷ MAX_VALUES ∷ MAX_ALIASES ∷ [] ≡ 32 ∷ 4096 ∷ 1024 ∷ []
limits_of_values = refl
