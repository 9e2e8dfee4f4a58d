use Rattle.admin_ring.proofs.Posting.{stands_one, has_posted, command_there, others_stay}
use Rattle.admin_ring.proofs.host.Host.post.Goals as goal

pub post-requires-clause-ring : goal.post-requires-clause-ring
post-requires-clause-ring c =
    (c.requires.ring.0, stands_one c.args.self.now c.args.key c.args.writable c.args.command.now c.write.new.self c.requires.host c.requires.key c.requires.command c.write.ensures.written c.write.ensures.length c.requires.ring.0 c.requires.ring.1.stands)

pub returns-clause-posted : goal.returns-clause-posted
returns-clause-posted c =
    has_posted c.args.self.now c.args.key c.args.writable c.args.command.now c.write.new.self c.requires.host c.requires.key c.requires.command c.write.ensures.written c.write.ensures.length
    c.post.result c.post.new.mem c.post.new.self c.post.ensures.full.0 c.requires.free c.post.ensures.posted

pub returns-clause-command : goal.returns-clause-command
returns-clause-command c =
    command_there c.args.self.now c.args.key c.args.writable c.args.command.now c.write.new.self c.requires.host c.requires.key c.requires.command c.write.ensures.written c.write.ensures.length
    c.requires.ring.0 c.requires.ring.1.stands c.post.new.mem c.post.new.self c.post.ensures.behind c.post.ensures.length

pub returns-clause-others : goal.returns-clause-others
returns-clause-others c =
    others_stay c.args.self.now c.args.key c.args.writable c.args.command.now c.write.new.self c.requires.host c.requires.key c.requires.command c.write.ensures.written c.write.ensures.length
    c.requires.ring.0 c.requires.ring.1.stands c.post.new.mem c.post.new.self c.post.ensures.behind c.post.ensures.length
