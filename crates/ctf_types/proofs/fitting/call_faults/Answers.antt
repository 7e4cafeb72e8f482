use Rattle.std.proofs.Common.{Err, refl, sym, ◌∙◌}
use Rattle.std.specs.Option.{option_or}
use Rattle.data_types.specs.declared.arg_fault.ArgFault.TheVariants.{NoSuchEvent}
use Rattle.ctf_types.specs.Faults.{struct_fault, call_fault}
use Rattle.data_types.specs.Values.{data_of}
use Rattle.ctf_types.proofs.FittingLemmas.{call_none, ok_none, err_is, or_here, or_later, no_event_fault, event_faults}
use Rattle.ctf_types.proofs.fitting.call_faults.Goals as goal

pub returns-in_default : goal.returns-in_default
returns-in_default c =
    let s = c.args.stream.now in
    let a = c.args.args.now in
    let first = no_event_fault s c.args.event a c.in_default.ensures in
    record { first_fault = first; fits = ok_none {A = Unit {0}} (Err NoSuchEvent) (call_fault s c.args.event a) first (call_none s c.args.event a) }

pub returns-in_err-fits : goal.returns-in_err-fits
returns-in_err-fits c =
    let s = c.args.stream.now in
    let a = c.args.args.now in
    let e = c.in-Some.event.now in
    let later = option_or (struct_fault e.specific a.specific) (struct_fault e.payload a.payload) in
    let first = err_is c.from_residual.result c.in_err-fits.field-0.0 c.from_residual.ensures
    ∙ or_here (struct_fault s.common (data_of c.as_slice.result.now)) later c.in_err-fits.field-0.0 c.in_err-fits.ensures.first_fault
    ∙ event_faults s c.args.event a e _ _ _ c.in-Some.ensures c.as_slice.ensures refl refl in
    record { first_fault = first; fits = ok_none c.from_residual.result (call_fault s c.args.event a) first (call_none s c.args.event a) }

pub returns-in_err-fits-2 : goal.returns-in_err-fits-2
returns-in_err-fits-2 c =
    let s = c.args.stream.now in
    let a = c.args.args.now in
    let e = c.in-Some.event.now in
    let fault = c.in_err-fits-2.field-0.0 in
    let here = or_here (struct_fault e.specific (data_of c.as_slice-2.result.now)) (struct_fault e.payload a.payload) fault c.in_err-fits-2.ensures.first_fault in
    let first = err_is c.from_residual-in_err-fits-2.result fault c.from_residual-in_err-fits-2.ensures
    ∙ here ∙ sym (or_later (struct_fault s.common (data_of c.as_slice.result.now)) _ c.in_ok-fits.ensures.first_fault)
    ∙ event_faults s c.args.event a e _ _ _ c.in-Some.ensures c.as_slice.ensures c.as_slice-2.ensures refl in
    record { first_fault = first; fits = ok_none c.from_residual-in_err-fits-2.result (call_fault s c.args.event a) first (call_none s c.args.event a) }

pub returns : goal.returns
returns c =
    let s = c.args.stream.now in
    let a = c.args.args.now in
    let e = c.in-Some.event.now in
    let first = c.fits-3.ensures.first_fault
    ∙ sym (or_later (struct_fault e.specific (data_of c.as_slice-2.result.now)) (struct_fault e.payload (data_of c.as_slice-3.result.now)) c.in_ok-fits-2.ensures.first_fault)
    ∙ sym (or_later (struct_fault s.common (data_of c.as_slice.result.now)) _ c.in_ok-fits.ensures.first_fault)
    ∙ event_faults s c.args.event a e _ _ _ c.in-Some.ensures c.as_slice.ensures c.as_slice-2.ensures c.as_slice-3.ensures in
    record { first_fault = first; fits = ok_none c.fits-3.result (call_fault s c.args.event a) first (call_none s c.args.event a) }
