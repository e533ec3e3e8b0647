use Rattle.zp_laws.proofs.BooksOwn.{request_noted}
use Rattle.zp_laws.proofs.book_laws.replies_tell_their_part.Goals as goal

pub returns : goal.returns
returns c = λ w r b d. request_noted w r b d.1
