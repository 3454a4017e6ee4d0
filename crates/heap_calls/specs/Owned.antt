use Rattle.std.specs.Prelude.{ℕ, Option, Some, None, slice_get}
use Rattle.heap_calls.specs.State.{Role, Plain, Resource, SystemResource, Meaning, Handle, Pointer, Disposed, State}

-- Which numbers stand for handles of resources. More Macintosh Toolbox, chapter 1, "Using the Resource Manager".

-- The role of a resource's handle; `None` for an application's own handle.
abbrev pub resource_only : Role → Option Role
resource_only Plain = None
resource_only Resource = Some Resource
resource_only SystemResource = Some SystemResource

-- The role of a resource's handle, by what a number stands for.
abbrev pub resource_meant : Option Meaning → Option Role
resource_meant None = None
resource_meant (Some (Handle role)) = resource_only role
resource_meant (Some Pointer) = None
resource_meant (Some Disposed) = None

-- The role of the resource's handle that a number stands for; `None` where the number stands for anything else.
abbrev pub resource_role_at : ℕ → State → Option Role
resource_role_at h s = resource_meant (slice_get s.names h)
