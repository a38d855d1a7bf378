-- `right_step` meets its contract: by what the line is and what its fields say.
use mathlib.Core.Path.{◌≡◌, sym, ap, ◌∙◌}
use lib.ListN.{length}
use lib.Dec.{ltb}
use Rattle.fields.proofs.Lines.{fields_of}
use Rattle.lines.specs.declared.Turn.{Turn}
use Rattle.sheets.specs.Items.{step_at_of}
use Rattle.std.specs.Prelude.{Option}
use Rattle.rights.specs.declared.Right.{Right}
use Rattle.rights.specs.RightLines.{right_line, right_fields}
use Rattle.rights.specs.RightSheets.{right_said, right_line_step}
use Rattle.rights.proofs.Lines.{step_turn}
use Rattle.fields.specs.Cursors.{bytes_left}
use Rattle.rights.proofs.right_step.Lts
use Rattle.rights.proofs.right_step.Reads
use Rattle.rights.proofs.right_step.Tie
use Rattle.rights.proofs.right_step.Goals as goal

-- what the line is
turned : (c : Lts.After-turn_at Tie.the-claims Reads.Pre Reads.Post) (x : Turn)
    → c.turn_at.result ≡ x
    → step_at_of 50 50 (right_said (right_line
    (bytes_left c.args.s.now c.args.c))) x
    ≡ right_line_step (bytes_left c.args.s.now c.args.c)
    (ltb c.args.c.end (length c.args.s.now))
turned c x is =
    let a = c.args in
    ap (step_at_of 50 50 (right_said (right_line (bytes_left a.s.now a.c))))
    (sym is ∙ c.turn_at.ensures)
    ∙ step_turn (bytes_left a.s.now a.c) (ltb a.c.end (length a.s.now))

-- what its fields say
said : (c : Lts.After-right_line Tie.the-claims Reads.Pre Reads.Post) (x : Option Right)
    → c.right_line.result ≡ x
    → right_said x ≡ right_said (right_line (bytes_left c.args.s.now c.args.c))
said c x is =
    ap right_said (sym is ∙ c.right_line.ensures ∙ ap right_fields
    (fields_of c.args.s.now c.args.c c.requires.0 c.requires.1))

pub returns-in-End : goal.returns-in-End
returns-in-End c = turned c.before.before _ c.in-End.is

pub returns-in-Many : goal.returns-in-Many
returns-in-Many c = turned c.before.before _ c.in-Many.is

pub returns-in-Open : goal.returns-in-Open
returns-in-Open c = turned c.before.before _ c.in-Open.is

pub returns-in-Some : goal.returns-in-Some
returns-in-Some c = said c.before.before _ c.in-Some.is ∙ turned c.before.before.before.before _
    c.in-Whole.is

pub returns-in-None : goal.returns-in-None
returns-in-None c = said c.before.before _ c.in-None.is ∙ turned c.before.before.before.before _
    c.in-Whole.is
