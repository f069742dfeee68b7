use Rattle.ynl_replies.proofs.admission.Submitting.{most-told}
use Rattle.ynl_replies.proofs.admission.submissions.has_most_apps.Goals as goal

pub lane-requires : goal.lane-requires
lane-requires c = record { partition = c.inventory.ensures.sound.some; queue = c.requires.there }

pub returns : goal.returns
returns c =
    most-told c.args.cluster.now c.inventory.ensures.sound c.args.leaf c.requires c.leaf_settings.result.now c.leaf_settings.ensures
    (record { partition = c.inventory.ensures.sound.some; queue = c.requires.there }) c.lane.result.now c.lane.ensures.lane c.len.result c.len.ensures
