use Rattle.guest_gen.proofs.Words.{headers_written}
use Rattle.guest_gen.proofs.elf_file.write_headers.Goals as goal

pub returns : goal.returns
returns c = record {
  added = headers_written c.args.file.now.items _ _ _ _ _ c.args.bytes c.in_ok-write_bytes.ensures.added c.in_ok-write_halves.ensures.added c.in_ok-write_words.ensures.added c.in_ok-write_halves-2.ensures.added c.in_ok-write_words-2.ensures.added;
}
