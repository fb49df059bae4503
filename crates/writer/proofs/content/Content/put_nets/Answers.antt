use Rattle.std.proofs.Common.{refl}
use Rattle.jobfile.specs.Layout.{nets_bytes}
use Rattle.writer.proofs.FileParts.{front_put}
use Rattle.writer.proofs.content.Content.put_nets.Goals as goal

pub returns : goal.returns
returns c =
    let set = c.args.self.now.set in
    front_put 4 c.args.file.now _ (nets_bytes set.nets.network set.class) c.copy_from_slice.ensures.after refl
