use Rattle.ynl_workers.proofs.session.Hands.{goes_on}
use Rattle.ynl_workers.proofs.session.sessions.run_session.Goals as goal

pub returns : goal.returns
returns g c =
    let made = c.in_ok-start.ensures in
    goes_on (g.G.Gate.is_free c.args.gate.now) c.args.start c.in_ok-start.start c.args.events.now c.args.rounds c.in_ok-start.history c.in_ok-later.later c.append.new.self made.events made.closed made.start c.in_ok-later.ensures
    c.in_ok-append.ensures.ok
