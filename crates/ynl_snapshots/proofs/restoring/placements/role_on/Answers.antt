-- What a line's container is to its application.
use Rattle.std.proofs.Common.{◌∙◌, ap, refl, sym}
use Rattle.ynl_model.specs.declared.proposals.What.TheVariants.{Ask as Asked}
use Rattle.ynl_inventory.specs.Meaning.{app_of}
use Rattle.ynl_cluster.specs.Cluster.{state_in}
use Rattle.ynl_saved.specs.Restoring.{may_have}
use Rattle.ynl_snapshots.proofs.restoring.placements.role_on.Goals as goal

pub returns-then-may_be_master-clause-role : goal.returns-then-may_be_master-clause-role
returns-then-may_be_master-clause-role c = record { means = sym c.in-Master.is; may = λ row part found at. c.if-may_be_master.ensures.master refl row found }

pub returns-in-Some-clause-role : goal.returns-in-Some-clause-role
returns-in-Some-clause-role c =
    let asked = c.in-Some.ensures.asked in
    record {
      means = ap (λ label. Asked label c.in-Ask.priority) asked.partition.own ∙ sym c.in-Ask.is;
      may = asked.may c.in-Ask.priority;
    }

pub returns-in-Some-clause-may : goal.returns-in-Some-clause-may
returns-in-Some-clause-may c row found = ap (λ what. may_have c.args.cluster.now.config (state_in c.args.cluster.now) c.args.placed.now what (app_of c.args.cluster.now.rows (c.args.app, row))) c.in-Ask.is ∙ c.in-Some.ensures.may c.args.placed.now c.in-Ask.priority row found c.requires.own

pub returns-in-None-clause-may : goal.returns-in-None-clause-may
returns-in-None-clause-may c row found = ap (λ what. may_have c.args.cluster.now.config (state_in c.args.cluster.now) c.args.placed.now what (app_of c.args.cluster.now.rows (c.args.app, row))) c.in-Ask.is ∙ c.in-None.ensures.may c.args.placed.now c.in-Ask.priority row found c.requires.own
