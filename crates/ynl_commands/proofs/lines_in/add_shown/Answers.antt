use Rattle.std.proofs.Common.{◌<◌, [], length, take, get_or, refl, rules, sym, arith, append-nil}
use Rattle.std.proofs.lemmas.List.Elements.{All-nil}
use Rattle.ynl_commands.proofs.Pieces.{first_shown, cut, of_ok}
use Rattle.ynl_commands.proofs.lines_in.add_shown.Goals as goal

pub returns-then-room-eq0-clause-shown : goal.returns-then-room-eq0-clause-shown
returns-then-room-eq0-clause-shown c =
    let shown = c.in-Ok.shown.now in
    let some : 0 < length shown = search rules in
    of_ok _ c.in-Ok.shown _ c.in-Ok.is (record {
      bytes = [];
      plain = All-nil _;
      grown = sym (append-nil _);
      within = omega (arith, c.args.line.now.ok.0);
      ended = (omega (arith, some), (omega (arith, c.args.line.now.ok.0), (get_or shown 0 0, first_shown shown some)));
    })

pub returns-clause-shown : goal.returns-clause-shown
returns-clause-shown c =
    let shown = c.in-Ok.shown.now in
    let count = c.newline_or_end-count.result in
    let cutting = cut c.args.line.now.items shown c.extend_from_slice.new.self.items count c.min-within.result c.args.budget c.newline_or_end-count.ensures.bound (search rules) (omega (arith, c.args.line.now.ok.0)) c.newline_or_end-count.ensures.before c.in_ok-extend_from_slice.ensures.items in
    of_ok _ c.in-Ok.shown _ c.in-Ok.is (record {
      bytes = take count shown;
      plain = cutting.plain;
      grown = c.in_ok-extend_from_slice.ensures.items;
      within = cutting.fits;
      ended = (cutting.bound, (cutting.some c.if-count-within.false (let some : 0 < length shown = search rules in omega arith), refl));
    })
