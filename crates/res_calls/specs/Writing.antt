use Rattle.std.specs.Prelude.{Bool, true, false}
use Rattle.res_calls.specs.Asked.{ResourceAsked, OpenResFile, CreateResFile, CloseResFile, UpdateResFile, AddResource}
use Rattle.res_calls.specs.Asked.{RemoveResource, ChangedResource, WriteResource, SetResInfo, SetResAttrs}
use Rattle.res_calls.specs.Asked.{WritePartialResource, SetResourceSize, SetResFileAttrs}

-- Holds of a call that may write a fork: CreateResFile, and the two calls that update a file.
-- See decision 59 (two calls write the bytes of a fork).
abbrev pub writes : ResourceAsked → Bool
writes (CreateResFile name) = true
writes (CloseResFile number) = true
writes (UpdateResFile number) = true
writes asked = false

-- Holds of a call that may change which resources there are, the type, ID, name, attributes or stored data of one, or the
-- attributes of a file.
abbrev pub alters : ResourceAsked → Bool
alters (OpenResFile name) = true
alters (CloseResFile number) = true
alters (UpdateResFile number) = true
alters (AddResource handle kind id name) = true
alters (RemoveResource handle) = true
alters (ChangedResource handle) = true
alters (WriteResource handle) = true
alters (SetResInfo handle id name) = true
alters (SetResAttrs handle attrs) = true
alters (WritePartialResource handle offset bytes) = true
alters (SetResourceSize handle size) = true
alters (SetResFileAttrs number attrs) = true
alters asked = false
