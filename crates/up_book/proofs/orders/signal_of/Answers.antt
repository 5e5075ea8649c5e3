use Rattle.up_book.proofs.Signalling.{signal-by, signal-none}
use Rattle.up_book.proofs.orders.signal_of.Goals as goal

pub returns-in_ok-who-in-Some : goal.returns-in_ok-who-in-Some
returns-in_ok-who-in-Some c places its named = signal-by its c.args.job.now c.args.kept.now places c.args.signal c.in-Some.pid c.in_ok-who-in-Some.who named c.in_ok-who-in-Some.ensures c.in-Some.is

pub returns-in-None : goal.returns-in-None
returns-in-None c places its named = signal-none its c.args.kept.now places c.args.signal c.in-None.is
