-- What a container's field holds, for its model.
use Rattle.xls_container.specs.declared.container.Content.{Content}
use Rattle.xls_container.specs.declared.container.Content.TheVariants.{CompoundFile, BareStream}
use Rattle.xls_container.specs.Files.{Container, compound_file, bare_stream}

abbrev pub container_of : Content → Container
container_of (CompoundFile compound) = compound_file compound
container_of (BareStream bytes) = bare_stream bytes.now
