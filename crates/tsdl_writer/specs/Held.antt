-- What the types of the program say of a configuration's values: numbers have their bits, and the text of an identifier is the identifier again.
use Rattle.std.specs.{Prelude.{◌≡◌, ℕ, ◌<◌, ◌^◌, List, Some, IfSome, FitsSigned, All}, Int.w64}
use Rattle.uuid.specs.Text.{parsed, hyphenated_text, lower}
use Rattle.ctf_types.specs.declared.{ClockType.ClockType, EnvironmentValue.EnvironmentValue, Config.Config}
use Rattle.ctf_types.specs.declared.EnvironmentValue.TheVariants as environment

-- the text of an identifier is the identifier again
pub record IsHeldUuid (uuid : List ℕ) : Type 0 where
  pub comes_back : parsed (hyphenated_text lower uuid) ≡ Some uuid

pub record IsHeldClock (c : ClockType) : Type 0 where
  pub uuid : IfSome c.uuid IsHeldUuid
  pub frequency : c.frequency < 2 ^ 64
  pub precision : c.precision < 2 ^ 64
  pub offset_seconds : FitsSigned w64 c.offset_seconds
  pub offset_cycles : c.offset_cycles < 2 ^ 64

abbrev pub IsHeldValue : EnvironmentValue → Type 0
IsHeldValue (environment.Whole z) = FitsSigned w64 z
IsHeldValue (environment.Text s) = Unit {0}

pub record IsHeld (c : Config) : Type 0 where
  pub uuid : IfSome c.uuid IsHeldUuid
  pub environment : All (λ e. IsHeldValue e.value) c.environment
  pub clocks : All IsHeldClock c.clocks
