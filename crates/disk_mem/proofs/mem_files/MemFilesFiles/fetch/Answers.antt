use Rattle.std.proofs.Common.{◌≡◌, Some, take, rules}
use Rattle.disk_model.specs.Directory.{file_named}
use Rattle.disk_model.specs.declared.files.TheConstants.{MAX_FETCH_BYTES}
use Rattle.disk_mem.specs.MemoryFiles.{as_file}
use Rattle.disk_mem.proofs.mem_files.MemFilesFiles.fetch.Goals as goal

pub returns-in_ok-to_vec-in-Some-clause-bytes : goal.returns-in_ok-to_vec-in-Some-clause-bytes
returns-in_ok-to_vec-in-Some-clause-bytes c =
    let file = as_file (c.in-Some).file.now in
    let found : file_named c.args.self.now.files c.args.name.now ≡ Some file = search rules in
    let bytes : (c.in_ok-to_vec-in-Some).field-0.items ≡ take MAX_FETCH_BYTES file.bytes = search rules in
    (file, found, bytes)
