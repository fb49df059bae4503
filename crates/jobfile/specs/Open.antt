-- Names every definition here and below that computes.
use Rattle.std.specs.Prelude.{ℕ}
use Rattle.turning.specs.Open.{open_turning}
use Rattle.jobfile.specs.Bytes.{number_of, bytes_of, word_bytes, number_at}
use Rattle.jobfile.specs.VectorsBody.{words_of, vectors_of, vectors_bytes}
use Rattle.jobfile.specs.Layout.{entry_kind, body_offset, body_length, same_bytes, bad_entry, bad_layout}
use Rattle.jobfile.specs.Layout.{bad_bodies, file_network, file_class, body_words, file_count, file_vectors, file_responses}

unfoldable pub open_jobfile : ℕ
unfolding open_turning number_of bytes_of word_bytes number_at words_of vectors_of vectors_bytes entry_kind body_offset body_length same_bytes bad_entry
    bad_layout bad_bodies file_network file_class body_words
    file_count file_vectors file_responses
open_jobfile = 0
