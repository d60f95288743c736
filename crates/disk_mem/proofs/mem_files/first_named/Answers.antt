use Rattle.std.proofs.Common.{◌∙◌, ap}
use Rattle.std.specs.Option.{option_map}
use Rattle.std.specs.Str.{bytes_eq}
use Rattle.disk_model.specs.Directory.{File}
use Rattle.disk_mem.specs.MemoryFiles.{as_file}
use Rattle.disk_mem.proofs.Named.{find-map}
use Rattle.disk_mem.proofs.mem_files.first_named.Goals as goal

pub returns : goal.returns
returns c = ap (option_map as_file) c.find_named.ensures ∙ find-map as_file (λ (f : File). bytes_eq f.name c.args.name.now) c.args.files.now
