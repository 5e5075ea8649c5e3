use Rattle.up_ledger.proofs.past.Past.aim.Goals as goal

pub returns-in_ok-start-in-Start-clause-after : goal.returns-in_ok-start-in-Start-clause-after
returns-in_ok-start-in-Start-clause-after c config c' i events f found same older live = rw c.in-Start.is (c.in_ok-start-in-Start.ensures.after config c' i events f found same older live)

pub returns-in_ok-start-in-Start-clause-places : goal.returns-in_ok-start-in-Start-clause-places
returns-in_ok-start-in-Start-clause-places c = c.in_ok-start-in-Start.ensures.places

pub returns-in_ok-stop-in-Stop-clause-after : goal.returns-in_ok-stop-in-Stop-clause-after
returns-in_ok-stop-in-Stop-clause-after c config c' i events f found same older live = rw c.in-Stop.is (c.in_ok-stop-in-Stop.ensures.after config c' i events f found same older live)

pub returns-in_ok-stop-in-Stop-clause-places : goal.returns-in_ok-stop-in-Stop-clause-places
returns-in_ok-stop-in-Stop-clause-places c = c.in_ok-stop-in-Stop.ensures.places
