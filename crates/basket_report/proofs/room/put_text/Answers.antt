use Rattle.basket_report.proofs.RoomLemmas.{front_put}
use Rattle.basket_report.proofs.room.put_text.Goals as goal

pub returns-clause-put : goal.returns-clause-put
returns-clause-put g c = front_put c.args.room.now c.args.text.now c.args.start g.row.N c.args.count c.requires.text c.requires.room c.requires.count
