use Rattle.std.proofs.Common.{◌≡◌, subst, true, false}
use Rattle.adjust_protocol.specs.Calls.{fresh}
use Rattle.history.specs.Boards.{rule_by}
use Rattle.master.specs.Kind.{board_in, by_entries_in}
use Rattle.master.specs.declared.slot.AnyBoard.{AnyBoard}
use Rattle.master.proofs.Given.{unbegun_idle, unbegun_none}
use Rattle.master.proofs.Needs.{is_rule}
use Rattle.master.proofs.slot.begin_board.Goals as goal

pub begin-requires-clause-fresh : goal.begin-requires-clause-fresh
begin-requires-clause-fresh c =
    let u = c.requires.unbegun in
    unbegun_none (rule_by false) (is_rule false) c.in-Pages.board.running u.positions u.from u.room (subst (λ (b : AnyBoard). (board_in b).running ≡ fresh (rule_by (by_entries_in b)) u.positions u.from u.room) c.in-Pages.is u.is)

pub begin-requires-clause-idle : goal.begin-requires-clause-idle
begin-requires-clause-idle c =
    let u = c.requires.unbegun in
    unbegun_idle (rule_by false) (is_rule false) c.in-Pages.board.running u.positions u.from u.room (subst (λ (b : AnyBoard). (board_in b).running ≡ fresh (rule_by (by_entries_in b)) u.positions u.from u.room) c.in-Pages.is u.is)

pub begin-requires-in-Entries-clause-fresh : goal.begin-requires-in-Entries-clause-fresh
begin-requires-in-Entries-clause-fresh c =
    let u = c.requires.unbegun in
    unbegun_none (rule_by true) (is_rule true) c.in-Entries.board.running u.positions u.from u.room (subst (λ (b : AnyBoard). (board_in b).running ≡ fresh (rule_by (by_entries_in b)) u.positions u.from u.room) c.in-Entries.is u.is)

pub begin-requires-in-Entries-clause-idle : goal.begin-requires-in-Entries-clause-idle
begin-requires-in-Entries-clause-idle c =
    let u = c.requires.unbegun in
    unbegun_idle (rule_by true) (is_rule true) c.in-Entries.board.running u.positions u.from u.room (subst (λ (b : AnyBoard). (board_in b).running ≡ fresh (rule_by (by_entries_in b)) u.positions u.from u.room) c.in-Entries.is u.is)
