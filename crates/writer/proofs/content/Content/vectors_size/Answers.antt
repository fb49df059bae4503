use Rattle.writer.proofs.ContentLaws.{plain_size, turned_size}
use Rattle.writer.proofs.content.Content.vectors_size.Goals as goal

pub returns-in-Vectors : goal.returns-in-Vectors
returns-in-Vectors c = plain_size c.args.self.now c.in-Vectors.is

pub returns-in-NetByNet : goal.returns-in-NetByNet
returns-in-NetByNet c = turned_size c.args.self.now c.in-NetByNet.is
