use Rattle.transport.proofs.Bags.{bag_puts, bag_gets}
use Rattle.transport.specs.Bag.{in_bag, takes_next}
use Rattle.transport.proofs.bag.calls.BagTransport.TheImpl.Goals as goal

pub put-tells : goal.put-tells
put-tells c =
    rw (c.ensures.answer, c.ensures.waiting)
    (bag_puts (in_bag c.args.self.now) c.args.frame.now)

pub get-tells : goal.get-tells
get-tells c =
    rw (c.ensures.answer, c.ensures.waiting, c.ensures.memory)
    (bag_gets (takes_next c.args.self.now) (in_bag c.args.self.now) c.args.memory.now)
