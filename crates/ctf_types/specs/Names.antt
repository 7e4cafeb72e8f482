-- Names and texts: which of them a configuration and metadata allow (CTF 1.8.3, appendix C.1.2, "Keywords", and C.1.3, "Identifiers"; barectf 3.1, "Configuration object").
-- A text is its bytes in UTF-8.
use Rattle.std.specs.Prelude.{◌≡◌, ℕ, ◌≤◌, List, [], ◌∷◌, Bool, false, IsTrue, ◌&&◌, ◌||◌, nat_le, nat_eq, length, codes}
use Rattle.std.specs.List.{list_all, list_any}
use Rattle.std.specs.Str.{bytes_eq}
use Rattle.ctf_types.specs.declared.limits.TheConstants.{MAX_NAME_BYTES, MAX_TEXT_BYTES}

-- a letter of ASCII or an underscore
abbrev pub is_letter : ℕ → Bool
is_letter c = (nat_le 65 c && nat_le c 90) || (nat_le 97 c && nat_le c 122) || nat_eq c 95

abbrev pub is_digit : ℕ → Bool
is_digit c = nat_le 48 c && nat_le c 57

-- a letter or an underscore, then letters, digits and underscores
unfoldable pub is_identifier : List ℕ → Bool
is_identifier [] = false
is_identifier (c ∷ s) = is_letter c && list_all (λ d. is_letter d || is_digit d) s

-- the keywords of TSDL for which nothing here has a use: metadata that has one anywhere is refused
abbrev pub unused_keywords : List (List ℕ)
unused_keywords =
    codes "callsite" ∷ codes "char" ∷ codes "const" ∷ codes "double" ∷ codes "float" ∷ codes "floating_point" ∷ codes "int" ∷ codes "long" ∷ codes "short"
    ∷ codes "typealias" ∷ codes "typedef" ∷ codes "unsigned" ∷ codes "variant" ∷ codes "void" ∷ codes "_Bool" ∷ codes "_Complex" ∷ codes "_Imaginary" ∷ []

-- the other keywords: a configuration refuses them as names too
abbrev pub used_keywords : List (List ℕ)
used_keywords =
    codes "align" ∷ codes "clock" ∷ codes "enum" ∷ codes "env" ∷ codes "event" ∷ codes "integer" ∷ codes "signed" ∷ codes "stream" ∷ codes "string"
    ∷ codes "struct" ∷ codes "trace" ∷ []

-- a name in metadata: an identifier that is no keyword without a use
pub record IsMetadataName (name : List ℕ) : Type 0 where
  pub identifier : IsTrue (is_identifier name)
  pub no_keyword : list_any (bytes_eq name) unused_keywords ≡ false

-- a name in a configuration: an identifier of at most 255 bytes
pub record IsConfigName (name : List ℕ) : Type 0 where
  pub identifier : IsTrue (is_identifier name)
  pub short : length name ≤ MAX_NAME_BYTES

-- a name of a member, a clock type or an environment entry of a configuration: no keyword either
pub record IsPlainName (name : List ℕ) : Type 0 where
  pub named : IsConfigName name
  pub no_unused_keyword : list_any (bytes_eq name) unused_keywords ≡ false
  pub no_used_keyword : list_any (bytes_eq name) used_keywords ≡ false

-- a text of a configuration: at most 4,096 bytes, and no control character but newline and tab
pub record IsConfigText (text : List ℕ) : Type 0 where
  pub short : length text ≤ MAX_TEXT_BYTES
  pub printable : IsTrue (list_all (λ c. nat_le 32 c || nat_eq c 10 || nat_eq c 9) text)
