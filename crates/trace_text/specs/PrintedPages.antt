-- What stands in front of a writer: a page of bytes that were said and are not yet written. It is written when it is full. After a fault nothing more
-- is written, so whatever was written is a front of what was said; and where the fault is the writer's, it is not all of it.
use Rattle.std.specs.Prelude.{◌≡◌, ℕ, List, [], ◌++◌, Option, None, Some}
use Rattle.std.specs.Io.KnownBytes.{Appends}
use Rattle.trace_platform.specs.Fronts.{AppendsFront, AppendsLess, Advances}
use Rattle.trace_text.specs.declared.printing_page.Page.{Page}
use Rattle.trace_text.specs.declared.printing_fault.PrintFault.{PrintFault}
use Rattle.trace_text.specs.declared.printing_fault.PrintFault.TheVariants.{Writer}

abbrev pub IsOpen : Page → Type 0
IsOpen page = page.fault ≡ None

-- a text was said behind what the page holds: what the writer holds before and after, and the page before and after
pub record Says (held : Option (List ℕ)) (page : Page) (later : Option (List ℕ)) (next : Page) (text : List ℕ) : Type 0 where
  pub told : IsOpen next → Advances held later (page.bytes ++ text) next.bytes
  pub front : IsOpen page → AppendsFront held later (page.bytes ++ text)
  pub less : IsOpen page → next.fault ≡ Some Writer → AppendsLess held later (page.bytes ++ text)
  pub stays : (fault : PrintFault) → page.fault ≡ Some fault → (next.fault ≡ Some fault) × Appends held later []
