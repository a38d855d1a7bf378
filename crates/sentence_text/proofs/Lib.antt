mod TokenLines
