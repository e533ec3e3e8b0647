use Rattle.zp_laws.proofs.BooksOwn.{noted-entries}
use Rattle.zp_laws.proofs.book_laws.requests_make_one_entry.Goals as goal

pub returns : goal.returns
returns c = noted-entries
