-- `sealing::Header::put_block` meets its contract: header, payload and end, each on what the one before left.
use Rattle.sealing.proofs.Stores.{block-put}
use Rattle.sealing.proofs.Header.put_block.Goals as goal

pub returns : goal.returns
returns c =
    let a = c.args in
    block-put a.b.now a.bytes.now a.self.kind a.self.shape.sizes a.n a.self.salt a.self.slot c.requires.2 c.requires.1
    c.put.ensures c.put_payload.ensures c.put_end.ensures
