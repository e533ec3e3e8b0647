use Rattle.zp_laws.proofs.BooksOut.{has-is_out}
use Rattle.zp_laws.proofs.book_laws.parts_tell_what_is_out.Goals as goal

pub returns : goal.returns
returns c = has-is_out
