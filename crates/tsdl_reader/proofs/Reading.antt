-- A text has one list of tokens, of atoms and of blocks, so it denotes at most one metadata.
use Rattle.std.proofs.Common.{◌≡◌, ℕ, List, length, Option, slice_get, refl, sym, ap, subst, ◌∙◌, arith}
use Rattle.std.proofs.lemmas.Option.{slice_get_past}
use Rattle.std.proofs.lemmas.List.{length-map}
use Rattle.std.specs.List.{list_all}
use Rattle.ctf_types.specs.declared.Metadata.{Metadata}
use Rattle.tsdl_grammar.specs.declared.token.Token.{Token}
use Rattle.tsdl_grammar.specs.declared.atom.Atom.{Atom}
use Rattle.tsdl_grammar.specs.declared.fault.MetaFault.{MetaFault}
use Rattle.tsdl_grammar.specs.declared.fault.MetaFaultKind.{MetaFaultKind}
use Rattle.tsdl_grammar.specs.declared.fault.MetaFaultKind.TheVariants as faults
use Rattle.tsdl_grammar.specs.Tokens.{HasMagicLine, Tokenizes, HasTokens, start_of}
use Rattle.tsdl_grammar.specs.Atoms.{atom_of, atoms_of}
use Rattle.tsdl_grammar.specs.Fronts.{atoms_in}
use Rattle.tsdl_grammar.proofs.AtomsAhead.{tokens_mean}
use Rattle.tsdl_grammar.specs.Denotes.{is_read, text_meta, Denotes}
use Rattle.tsdl_flaw.specs.Flaws.{FaultStands}
use Rattle.tsdl_reader.specs.Reading.{Means, HasAtoms, LackSizes, IsPlaced, IsRefused, IsWithoutSizes, FaultHolds}
use Rattle.tsdl_parser.proofs.Steps.{some_is}
use Rattle.tsdl_parser.proofs.Blocks.{one_reading}

abbrev pub OneListOfTokens : Type 0
OneListOfTokens = (text : List ℕ) (ts us : List Token) → Tokenizes text ts → Tokenizes text us → ts ≡ us

-- what stands in the text, one after the other, is what its tokens mean
pub has_atoms : (text : List ℕ) → HasMagicLine text → (has : HasTokens text) → HasAtoms text has.0 (atoms_in text)
has_atoms text magic has = record { magic = magic; split = has.1; atoms = sym (tokens_mean text has.0 has.1) }

pub denotes : (text : List ℕ) (ts : List Token) (meant : List Atom) (m : Metadata) → HasAtoms text ts meant → Means meant m → Denotes text m
denotes text ts meant m has means = (has.magic, meant, (ts, has.split, has.atoms), means.0, means.1)

-- what a text denotes is what its atoms mean
pub means : OneListOfTokens → (text : List ℕ) (ts : List Token) (meant : List Atom) (m : Metadata) → HasAtoms text ts meant → Denotes text m → Means meant m
means one text ts meant m has d =
    let same : meant ≡ d.1 = has.atoms ∙ ap (atoms_of text) (one text ts d.2.0 has.split d.2.1) ∙ sym d.2.2 in
    (ap (list_all is_read) same ∙ d.3, (d.4.0, same ∙ d.4.1, d.4.2))

one_meaning : (meant : List Atom) (m n : Metadata) → Means meant m → Means meant n → m ≡ n
one_meaning meant m n a b =
    some_is m n (sym a.1.2 ∙ ap text_meta (one_reading a.1.0 b.1.0 (sym a.1.1 ∙ b.1.1)) ∙ b.1.2)

pub one_metadata : OneListOfTokens → (text : List ℕ) (ts : List Token) (meant : List Atom) (m n : Metadata) → HasAtoms text ts meant → Means meant m → Denotes text n → m ≡ n
one_metadata one text ts meant m n has a d = one_meaning meant m n a (means one text ts meant n has d)

-- the sizes that the atoms of a text lack are lacking in the text
pub without_sizes : (text : List ℕ) (ts : List Token) (meant : List Atom) → HasAtoms text ts meant → LackSizes meant → IsWithoutSizes text
without_sizes text ts meant has lack = record { tokens = ts; split = has.split; lack = subst LackSizes has.atoms lack }

-- behind the last token the text ends
behind_all : (ts : List Token) (index end : ℕ) → index ≡ length ts → start_of (slice_get ts index) end ≡ end
behind_all ts index end e = ap (λ (t : Option Token). start_of t end) (slice_get_past ts index (omega arith))

-- what a fault of the grammar or of the meaning says, by its kind
pub holds : (text : List ℕ) (at : ℕ) (kind : MetaFaultKind) → IsRefused text at kind → (kind ≡ faults.NoPacketSize → IsWithoutSizes text) → FaultHolds text kind at
holds text at faults.NoMagicLine r sizes = absurd r.fault
holds text at faults.Token r sizes = absurd r.fault
holds text at faults.OutOfMemory r sizes = absurd r.fault
holds text at faults.Syntax r sizes = r
holds text at (faults.Unsupported name) r sizes = r
holds text at faults.Duplicate r sizes = r
holds text at faults.NoPacketSize r sizes = (r, r.place ∙ behind_all r.tokens r.index (length text) (r.fault ∙ length-map r.tokens (atom_of text)), sizes refl)
holds text at faults.BadLength r sizes = r
holds text at faults.Limit r sizes = r

-- a text whose atoms mean nothing denotes nothing
pub refused : OneListOfTokens → (text : List ℕ) (ts : List Token) (meant : List Atom) (fault : MetaFault) → HasAtoms text ts meant → ((m : Metadata) → Means meant m → ⊥)
    → IsPlaced ts meant (length text) fault → IsRefused text fault.place fault.kind
refused one text ts meant fault has none placed = record {
  magic = has.magic;
  tokens = ts;
  split = has.split;
  index = placed.0;
  place = placed.1;
  fault = subst (λ (l : List Atom). FaultStands l placed.0 fault.kind) has.atoms placed.2;
  nothing = λ m d. none m (means one text ts meant m has d);
}
