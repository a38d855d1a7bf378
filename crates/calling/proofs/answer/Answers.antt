-- `answer` meets its contract: in each arm the call is known.
use mathlib.Core.Path.{refl}
use Rattle.text.specs.Output.{refused_text_of, head}
use borrow.Author.Rules.{rules}
use Rattle.calling.proofs.answer.Goals as goal

pub on_sheets-requires : goal.on_sheets-requires
on_sheets-requires c =
    record {
      in_bounds = search rules;
      sheets_inside = rw (c.in-Some.is, c.in-On.is) at c.requires.inside;
    }

pub returns-in-Always : goal.returns-in-Always
returns-in-Always c =
    let a = c.always_text.ensures in
    record { text = a.text; is = rw (c.in-Some.is, c.in-Always.is) a.is; wrote = a.wrote }

pub returns-in-ClausesAlways : goal.returns-in-ClausesAlways
returns-in-ClausesAlways c =
    let a = c.clauses_always_text.ensures in
    record { text = a.text; is = rw (c.in-Some.is, c.in-ClausesAlways.is) a.is; wrote = a.wrote }

pub returns-in-On : goal.returns-in-On
returns-in-On c =
    let a = c.on_sheets.ensures in
    record { text = a.text; is = rw (c.in-Some.is, c.in-On.is) a.is; wrote = a.wrote }

pub returns-in_default : goal.returns-in_default
returns-in_default c =
    record {
      text = head (refused_text_of 32) 0;
      is = rw c.in_default.is refl;
      wrote = c.put_refusal.ensures;
    }
