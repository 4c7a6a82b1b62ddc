use Rattle.desk_index.proofs.CatalogueRoom.{has_room_so}
use Rattle.desk_index.proofs.replaying.has_room.Goals as goal

pub returns-then-count-lt-IMAGE_LIMIT : goal.returns-then-count-lt-IMAGE_LIMIT
returns-then-count-lt-IMAGE_LIMIT c images listed = has_room_so c.args.id.now images c.args.catalogue.now _ _ listed c.count.ensures c.if-count-lt-IMAGE_LIMIT.true c.is_new.ensures
