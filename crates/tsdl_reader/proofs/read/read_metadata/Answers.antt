use Rattle.std.proofs.Common.{sym, ◌∙◌}
use Rattle.tsdl_grammar.specs.declared.fault.MetaFault.{MetaFault}
use Rattle.tsdl_grammar.specs.Fronts.{atoms_in}
use Rattle.tsdl_reader.proofs.Reading.{has_atoms, denotes, means, one_metadata, without_sizes, refused, holds}
use Rattle.tsdl_reader.proofs.read.read_metadata.Goals as goal

pub returns-in-Ok-clause-found : goal.returns-in-Ok-clause-found
returns-in-Ok-clause-found c =
    let text = c.args.text.now in
    let d = denotes text c.in_ok-check_tokens.ensures.found.1.0 (atoms_in text) c.in-Ok.metadata (has_atoms text c.in_ok-check_tokens.ensures.found.0 c.in_ok-check_tokens.ensures.found.1) (rw c.in-Ok.is at c.meaning.ensures.found) in
    (d, c.denoted_is_allowed.ensures text c.in-Ok.metadata d)

pub returns-in-Ok-clause-only : goal.returns-in-Ok-clause-only
returns-in-Ok-clause-only c =
    let text = c.args.text.now in
    λ m d. one_metadata c.tokens_are_unique.ensures text c.in_ok-check_tokens.ensures.found.1.0 (atoms_in text) c.in-Ok.metadata m (has_atoms text c.in_ok-check_tokens.ensures.found.0 c.in_ok-check_tokens.ensures.found.1) (rw c.in-Ok.is at c.meaning.ensures.found) d

pub returns-in-Err-Fault-clause-only : goal.returns-in-Err-Fault-clause-only
returns-in-Err-Fault-clause-only c =
    let text = c.args.text.now in
    λ m d. absurd ((rw (c.in-Err-Fault.is, c.in-Err-Fault.field-0-is) at c.meaning.ensures.none) m (means c.tokens_are_unique.ensures text c.in_ok-check_tokens.ensures.found.1.0 (atoms_in text) m (has_atoms text c.in_ok-check_tokens.ensures.found.0 c.in_ok-check_tokens.ensures.found.1) d))

pub returns-in-Err-Fault-clause-fault : goal.returns-in-Err-Fault-clause-fault
returns-in-Err-Fault-clause-fault c =
    let text = c.args.text.now in
    let fault : MetaFault = record { place = c.token_start.result; kind = c.into_kind.result } in
    let none = rw (c.in-Err-Fault.is, c.in-Err-Fault.field-0-is) at c.meaning.ensures.none in
    let stands = rw (c.in-Err-Fault.is, c.in-Err-Fault.field-0-is) at c.meaning.ensures.fault in
    let missed = rw (c.in-Err-Fault.is, c.in-Err-Fault.field-0-is) at c.meaning.ensures.sizes in
    let tokens = c.in_ok-check_tokens.ensures.found.1 in
    let has = has_atoms text c.in_ok-check_tokens.ensures.found.0 tokens in
    holds text c.token_start.result c.into_kind.result
    (refused c.tokens_are_unique.ensures text tokens.0 (atoms_in text) fault has none (c.in-Err-Fault.fault.at, c.token_start.ensures tokens.0 tokens.1, rw c.into_kind.ensures stands))
    (λ e. without_sizes text tokens.0 (atoms_in text) has (missed (sym c.into_kind.ensures ∙ e)))

pub returns-in-Ok-clause-token : goal.returns-in-Ok-clause-token
returns-in-Ok-clause-token c = λ at magic stops. absurd (c.tokens_or_a_stop.ensures c.args.text.now c.in_ok-check_tokens.ensures.found.1.0 at c.in_ok-check_tokens.ensures.found.1.1 stops)

pub returns-in-Err-Fault-clause-token : goal.returns-in-Err-Fault-clause-token
returns-in-Err-Fault-clause-token c = λ at magic stops. absurd (c.tokens_or_a_stop.ensures c.args.text.now c.in_ok-check_tokens.ensures.found.1.0 at c.in_ok-check_tokens.ensures.found.1.1 stops)
