use Rattle.image_kinds.proofs.Common.{w64, to_be_bytes, spelled_path, spelled_content}
use Rattle.image_kinds.proofs.Writing.{written}
use Rattle.image_kinds.proofs.encode.write_entry.Goals as goal

pub returns : goal.returns
returns c =
    let path = rw c.bytes.ensures at c.in_ok-write_path.ensures in
    let time = rw c.to_be_bytes.ensures at c.in_ok-extend_from_slice.ensures.items in
    let content = rw c.bytes-2.ensures at c.in_ok-write_content.ensures in
    written c.args.out.now.items c.push.new.self.items c.write_path.new.out.items c.extend_from_slice.new.self.items c.write_content.new.out.items (spelled_path c.args.entry.now.path) (to_be_bytes w64 c.args.entry.now.time) (spelled_content c.args.entry.now.content) c.in_ok-push.ensures.items path time content
