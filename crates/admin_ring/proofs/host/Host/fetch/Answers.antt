use Rattle.admin_ring.proofs.Fetching.{fetches, fetches_none, never_other}
use Rattle.admin_ring.proofs.host.Host.fetch.Goals as goal

pub unreachable-requires : goal.unreachable-requires
unreachable-requires c = never_other c.args.self.now c.args.pos c.requires.host c.requires.ring.0 c.requires.ring.1 c.requires.ring.2 c.in-Other.ensures.answer

pub returns-in-Pair : goal.returns-in-Pair
returns-in-Pair c = λ r has at.
    fetches c.args.self.now c.args.pos c.requires.host r has at
    (record { head = c.in-Pair.head; readable = record { addr = c.in-Pair.readable; len = c.in-Pair.readable_len }; writable = record { addr = c.in-Pair.writable; len = c.in-Pair.writable_len } })
    c.requires.idle c.in-Pair.ensures.answer

pub returns-in-Empty : goal.returns-in-Empty
returns-in-Empty c = λ r has at. fetches_none c.args.self.now c.args.pos c.requires.host r has at c.in-Empty.ensures.answer
