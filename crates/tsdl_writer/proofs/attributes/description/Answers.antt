use Rattle.tsdl_writer.proofs.attributes.description.Goals as goal

pub returns : goal.returns
returns c = rw c.in-Some.is (rw c.as_str.ensures at c.attribute.ensures)
