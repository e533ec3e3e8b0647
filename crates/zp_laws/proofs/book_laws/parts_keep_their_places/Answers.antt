use Rattle.zp_laws.proofs.BooksShape.{places_kept}
use Rattle.zp_laws.proofs.book_laws.parts_keep_their_places.Goals as goal

pub returns : goal.returns
returns c = λ w u r b l d. places_kept w u r b l d.0 d.1
