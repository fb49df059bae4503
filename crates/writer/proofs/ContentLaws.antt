-- What a job file says: the two bodies of the vectors, and the whole.
use Rattle.std.proofs.Common.{◌≡◌, ℕ, ◌+◌, ◌*◌, ◌≤◌, List, ◌∷◌, ◌++◌, length, refl, sym, ◌∙◌, length-append, arith}
use Rattle.words.specs.Answers.{full, lent_after}
use Rattle.words.specs.Turning.{transpose}
use Rattle.words.specs.Writing.{written}
use Rattle.words.proofs.Writing.{written_next, written_front}
use Rattle.network.proofs.Rows.{AdmittedSet, admitted_set}
use Rattle.jobfile.specs.Bytes.{word_bytes}
use Rattle.jobfile.specs.Layout.{bodies_at, nets_bytes, nets_size}
use Rattle.jobfile.proofs.StoredVectors.{size_turned, size_plain, bytes_turned, bytes_plain}
use Rattle.writer.specs.Writer.{entries_for, head_of, bodies_of, file_of}
use Rattle.jobfile.specs.BodyKind.{number_of_kind}
use Rattle.writer.specs.Content.{body_of, bytes_of_content}
use Rattle.jobfile.specs.declared.kind.BodyKind.TheVariants.{Vectors, NetByNet}
use Rattle.writer.proofs.WriterLaws.{head_size, file_size}
use Rattle.writer.specs.declared.content.Content.{Content}

module _ (c : Content) where
  pub set_is : AdmittedSet c.set.nets.network c.set.class c.set.vectors.now
  set_is = admitted_set c.set.nets.network c.set.class c.set.vectors.now c.set.admitted

  module _ (kind : c.kind ≡ Vectors) where
    pub plain_body : word_bytes c.set.vectors.now ≡ body_of c
    plain_body = rw kind (sym (bytes_plain 2 refl c.set.nets.network.nets c.set.vectors.now))

    pub plain_size : (8 * length c.set.vectors.now ≡ length (body_of c)) × (8 * length c.set.vectors.now ≤ 512)
    plain_size = let most = set_is.vectors_most in
        (rw kind (sym (size_plain 2 refl c.set.nets.network.nets c.set.vectors.now)), omega arith)

  module _ (kind : c.kind ≡ NetByNet) where
    pub turned_body : length c.set.vectors.now ∷ word_bytes (transpose c.set.nets.network.nets c.set.vectors.now) ≡ body_of c
    turned_body = rw kind (sym (bytes_turned 4 refl c.set.nets.network.nets c.set.vectors.now))

    pub turned_size : (1 + 8 * c.set.nets.network.nets ≡ length (body_of c)) × (1 + 8 * c.set.nets.network.nets ≤ 512)
    turned_size = let most = set_is.most in
        (rw kind (sym (size_turned 4 refl c.set.nets.network.nets c.set.vectors.now)), omega arith)

  -- how long the whole is
  pub whole_size : length (bytes_of_content c)
      ≡ bodies_at (entries_for c.responses.now) + nets_size + length (body_of c) + 8 * length c.responses.now
  whole_size = file_size (number_of_kind c.kind) c.set.vectors.now c.responses.now c.set.nets.network c.set.class

  -- the nets body, the vectors' body and the responses, one after the other, are the bodies
  pub bodies_put : (lent netted bodied all : List ℕ) (size : ℕ) → size ≡ length (body_of c)
      → netted ≡ lent_after (full (nets_bytes c.set.nets.network c.set.class)) lent
      → bodied ≡ written netted nets_size (body_of c)
      → all ≡ written bodied (nets_size + size) (word_bytes c.responses.now)
      → all ≡ lent_after (full (bodies_of c.set.nets.network c.set.class (body_of c) c.responses.now)) lent
  bodies_put lent netted bodied all size z e f g =
      let nets = nets_bytes c.set.nets.network c.set.class in
      let words = word_bytes c.responses.now in
      let both = length-append nets (body_of c) in
      let two : bodied ≡ written lent 0 (nets ++ body_of c) =
      written_next lent netted bodied 0 nets_size nets (body_of c) (e ∙ sym (written_front lent nets)) f refl (omega arith) in
      written_next lent bodied all 0 (nets_size + size) (nets ++ body_of c) words two g (omega (arith, z, both)) (omega arith)
      ∙ written_front lent (nets ++ body_of c ++ words)

  -- the head and the bodies are the file
  pub whole_put : (lent headed all : List ℕ) (start : ℕ) → start ≡ bodies_at (entries_for c.responses.now)
      → headed ≡ lent_after (full (head_of (number_of_kind c.kind) (length (body_of c)) c.responses.now)) lent
      → all ≡ written headed start (bodies_of c.set.nets.network c.set.class (body_of c) c.responses.now)
      → all ≡ lent_after (full (bytes_of_content c)) lent
  unfolding file_of
  whole_put lent headed all start s e f =
      let head = head_of (number_of_kind c.kind) (length (body_of c)) c.responses.now in
      let bodies = bodies_of c.set.nets.network c.set.class (body_of c) c.responses.now in
      let begin = head_size (number_of_kind c.kind) (length (body_of c)) c.responses.now in
      written_next lent headed all 0 start head bodies (e ∙ sym (written_front lent head)) f (omega (arith, s, begin)) (omega arith)
      ∙ written_front lent (bytes_of_content c)
