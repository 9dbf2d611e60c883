use Rattle.transport.proofs.Mailboxes.{mailbox_puts, mailbox_gets}
use Rattle.transport.specs.Mailbox.{in_mailbox}
use Rattle.transport.proofs.mailbox.calls.MailboxTransport.TheImpl.Goals as goal

pub put-tells : goal.put-tells
put-tells c =
    rw (c.ensures.answer, c.ensures.waiting)
    (mailbox_puts (in_mailbox c.args.self.now) c.args.frame.now)

pub get-tells : goal.get-tells
get-tells c =
    rw (c.ensures.answer, c.ensures.waiting, c.ensures.memory)
    (mailbox_gets (in_mailbox c.args.self.now) c.args.memory.now)
