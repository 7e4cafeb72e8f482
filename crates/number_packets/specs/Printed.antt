-- What the program prints: each packet as a line of hexadecimal, then the values that were read back.
use Rattle.std.specs.Prelude.{ℕ, List, [], ◌∷◌, ◌++◌, codes}
use Rattle.std.specs.List.{flat_map}
use Rattle.std.specs.Fmt.{decimal}
use Rattle.hex.specs.Hex.{encode_lower}

-- a packet: its bytes in lower case hexadecimal, and a newline
abbrev pub packet_line : List ℕ → List ℕ
packet_line packet = encode_lower packet ++ 10 ∷ []

-- the values, each in decimal after a space
abbrev pub values_line : List ℕ → List ℕ
values_line values = codes "read:" ++ flat_map (λ v. 32 ∷ decimal v) values ++ 10 ∷ []

abbrev pub printed : List (List ℕ) → List ℕ → List ℕ
printed packets values = flat_map packet_line packets ++ values_line values

-- what is said of the first bad line
abbrev pub bad_line : ℕ → List ℕ
bad_line n = codes "bad line " ++ decimal n ++ 10 ∷ []
