use Rattle.zp_laws.proofs.BooksOthers.{request_others}
use Rattle.zp_laws.proofs.book_laws.requests_leave_others.Goals as goal

pub returns : goal.returns
returns c = λ u w r b l d ne. request_others u w r b l d.0 d.1 ne
