-- All lines were sent, and then what was held back was written; or a write failed.
use Rattle.std.proofs.Common.{◌<◌, length, vec_len, ap, arith}
use Rattle.ynl_saved.specs.Saving.{state_lines}
use Rattle.ynl_saved_text.specs.Texts.{state_text}
use Rattle.ynl_commands.specs.Running.{held_limit}
use Rattle.ynl_commands.proofs.Sendings.{all_sent, all_written, part_written, sending_failed}
use Rattle.ynl_commands.proofs.state_out.StateOut.send.Goals as goal

pub returns-in_err-tell_state-clause-same_reference : goal.returns-in_err-tell_state-clause-same_reference
returns-in_err-tell_state-clause-same_reference g c =
    let s = c.args.self.now in
    let none = ap length c.requires.none in
    let short : vec_len s.held < held_limit = omega (arith, none, s.held.ok.0) in
    (sending_failed (λ s. s.writer.ghost_name) (λ s. g.W.Write.contents s.writer.now) (λ s. s.held) (state_lines c.args.saving.now.config c.args.saving.now.state) s c.tell_state.new.sink short
    c.args.size.longest c.requires.measured.longest c.requires.room c.requires.none c.in_err-tell_state.field-0.0 c.from_residual.result c.in_err-tell_state.ensures c.from_residual.ensures.1).0

pub returns-in_err-tell_state-clause-text : goal.returns-in_err-tell_state-clause-text
returns-in_err-tell_state-clause-text g c =
    let s = c.args.self.now in
    let none = ap length c.requires.none in
    let short : vec_len s.held < held_limit = omega (arith, none, s.held.ok.0) in
    (sending_failed (λ s. s.writer.ghost_name) (λ s. g.W.Write.contents s.writer.now) (λ s. s.held) (state_lines c.args.saving.now.config c.args.saving.now.state) s c.tell_state.new.sink short
    c.args.size.longest c.requires.measured.longest c.requires.room c.requires.none c.in_err-tell_state.field-0.0 c.from_residual.result c.in_err-tell_state.ensures c.from_residual.ensures.1).1

pub returns-in_err-write_held-clause-same_reference : goal.returns-in_err-write_held-clause-same_reference
returns-in_err-write_held-clause-same_reference g c =
    let s = c.args.self.now in
    let none = ap length c.requires.none in
    let short : vec_len s.held < held_limit = omega (arith, none, s.held.ok.0) in
    (all_sent (λ s. s.writer.ghost_name) (λ s. g.W.Write.contents s.writer.now) (λ s. s.held) (state_lines c.args.saving.now.config c.args.saving.now.state) s c.tell_state.new.sink short c.in_ok-tell_state.ensures).same

pub returns-in_err-write_held-clause-text : goal.returns-in_err-write_held-clause-text
returns-in_err-write_held-clause-text g c =
    let s = c.args.self.now in
    let t = c.tell_state.new.sink in
    let none = ap length c.requires.none in
    let short : vec_len s.held < held_limit = omega (arith, none, s.held.ok.0) in
    let sent = all_sent (λ s. s.writer.ghost_name) (λ s. g.W.Write.contents s.writer.now) (λ s. s.held) (state_lines c.args.saving.now.config c.args.saving.now.state) s t short c.in_ok-tell_state.ensures in
    part_written (g.W.Write.contents s.writer.now) (g.W.Write.contents t.writer.now) (g.W.Write.contents c.write_held.new.writer) t.held.items s.held.items
    (state_text c.args.saving.now.config c.args.saving.now.state) c.from_residual-in_err-write_held.result c.requires.none sent.out c.in_err-write_held.ensures.err c.from_residual-in_err-write_held.ensures.1

pub returns-clause-same_reference : goal.returns-clause-same_reference
returns-clause-same_reference g c =
    let s = c.args.self.now in
    let none = ap length c.requires.none in
    let short : vec_len s.held < held_limit = omega (arith, none, s.held.ok.0) in
    (all_sent (λ s. s.writer.ghost_name) (λ s. g.W.Write.contents s.writer.now) (λ s. s.held) (state_lines c.args.saving.now.config c.args.saving.now.state) s c.tell_state.new.sink short c.in_ok-tell_state.ensures).same

pub returns-clause-text : goal.returns-clause-text
returns-clause-text g c =
    let s = c.args.self.now in
    let t = c.tell_state.new.sink in
    let none = ap length c.requires.none in
    let short : vec_len s.held < held_limit = omega (arith, none, s.held.ok.0) in
    let sent = all_sent (λ s. s.writer.ghost_name) (λ s. g.W.Write.contents s.writer.now) (λ s. s.held) (state_lines c.args.saving.now.config c.args.saving.now.state) s t short c.in_ok-tell_state.ensures in
    all_written (g.W.Write.contents s.writer.now) (g.W.Write.contents t.writer.now) (g.W.Write.contents c.write_held.new.writer) t.held.items s.held.items
    (state_text c.args.saving.now.config c.args.saving.now.state) c.requires.none sent.out c.in_ok-write_held.ensures.ok
