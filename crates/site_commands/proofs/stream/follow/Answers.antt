use Rattle.site_commands.proofs.StreamLemmas.{refused_stream}
use Rattle.site_commands.proofs.stream.follow.Goals as goal

pub returns-in-Refused : goal.returns-in-Refused
returns-in-Refused g c =
    refused_stream (g.S.Shelf.is_content c.args.shelf.now) (g.S.Shelf.is_unread c.args.shelf.now) c.args.plan.now _ _ c.in-Refused.refusal c.say.result _ _ _ _
    c.as_str-2.ensures c.of_follow-names.ensures c.in-Refused.ensures c.say.ensures
